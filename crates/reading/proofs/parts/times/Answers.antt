use Rattle.std.proofs.Common.{refl, suc, ◌-◌, arith, Ok, Err}
use Rattle.std.proofs.lemmas.Result.{err_from_is_err_and}
use Rattle.reading.proofs.parts.times.Goals as goal

pub returns-in_err-p : goal.returns-in_err-p
returns-in_err-p g c =
    let e = err_from_is_err_and c.from_residual.result c.from_residual.ensures.1 in
    c.loop.invariant (suc (c.args.count - c.loop.counter - 1)) _ (omega arith) (Err c.in_err-p.field-0.0, c.in_err-p.ensures, cc (e.1, e.2))

pub loop-preserved : goal.loop-preserved
loop-preserved g c = λ k r e t. c.loop.invariant (suc k) r (omega arith) (Ok c.in_ok-p.p, c.in_ok-p.ensures, t)

pub returns : goal.returns
returns g c = c.loop.invariant 0 _ (omega arith) refl
