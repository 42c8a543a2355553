use Rattle.std.proofs.Common.{rules, tests, ap, ◌∙◌, ◌≡◌, ℕ, ◌-◌, ◌*◌, ◌/◌, ◌≤◌, length, arith, slice_range, List, [], Bor}
use Rattle.std.specs.List.{IsSubsliceAt}
use Rattle.std.proofs.lemmas.Option.{IfSome_then}
use Rattle.reading.proofs.OperandSearch.{some_found, none_found, answer_by, length_between}
use Rattle.reading.proofs.phis.among_operands.Goals as goal

pub returns : goal.returns
returns c =
    let a = c.args in
    let ws : List ℕ = a.s.now in
    let p = c.any.ensures.runs.0 in
    let same = c.any.ensures.runs.1 in
    let four : p.from.size ≡ 4 = ap (λ q. q.size) same ∙ c.chunks_exact.ensures.size in
    let rest : p.from.rest.now ≡ slice_range ws a.from a.to = ap (λ q. q.rest.now) same ∙ c.chunks_exact.ensures.rest in
    let long : length p.from.rest.now ≡ a.to - a.from = ap length rest ∙ length_between ws a.from a.to c.requires.to_in_bounds in
    let h = c.chunks_exact.ensures.runs p p.seen (omega (arith, four)) in
    let part = λ (k : ℕ). IfSome_then (p.at k) (h.2 k) (λ y q. let z : IsSubsliceAt 4 (slice_range ws a.from a.to) (k * 4) y.now = rw (← four, ← rest) q.2 in z) in
    let no_words : Bor (List ℕ) = record { ref_ptr = (0, 0); now = [] } in
    answer_by c.any.result c.any.ensures.runs.2
    (λ q.
    let w = q (λ x r f k. search rules) in
    let few : p.len * 4 ≤ length p.from.rest.now = rw four at h.0 in
    some_found ws a.from a.to a.number c.requires.whole p.at (λ y. y.now) part _ (λ y k. search (rules, tests)) w.0 (omega (arith, few, long, w.1)) w.2)
    (λ q.
    let all : p.len ≡ length p.from.rest.now / 4 = rw four at (h.1 q.0) in
    none_found ws a.from a.to a.number c.requires.whole p.at (λ y. y.now) part _ (λ y k e. search (rules, tests)) (λ k l. (_, p.reads k no_words (omega (arith, all, long, l)))) (q.1 (λ x r f k. search rules)))
