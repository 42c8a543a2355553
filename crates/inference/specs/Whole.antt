-- A call stage by stage: what is prepared, and what is answered.
use Rattle.std.specs.Prelude.{ℕ, ◌+◌, ◌*◌, ◌≤◌, ◌<◌, Bool, false, ◌≡◌, List, [], ◌++◌, map, length, get_or, drop, ltb, Result, Ok, Err}
use Rattle.model.specs.Limits.{most_identifiers, most_params, most_context, most_renders, most_index, place_width}
use Rattle.model.specs.Lists.{pick}
use Rattle.model.specs.Sheet.{Sheet}
use Rattle.model.specs.Reading.{Result as Got, got, refused}
use Rattle.model.specs.State.{State}
use Rattle.model.specs.Building.{build}
use Rattle.model.specs.Summary.{built, marked, copied}
use Rattle.model.specs.Ranges.{SheetBelow}
use Rattle.model.specs.Answer.{answer, answer_words, middle_words, operand_words, range_words, place_words, section}
use Rattle.model.specs.Call.{IsSheet, applies}
use Rattle.workspace.specs.Layout.{RECORD, END, SEEN, HANDED, STARTS, PASSED}
use Rattle.workspace.specs.Rows.{Indexed, Kept}
use Rattle.workspace.specs.Pending.{mutations_of, renders_of}
use Rattle.building.specs.declared.Building.{Building}
use Rattle.building.specs.Built.{index_of}
use Rattle.aliasing.specs.State.{nodes_of, end_at, state_of}
use Rattle.aliasing.specs.Pending.{Pending}
use Rattle.hir.specs.declared.refusal.Refusal.{Refusal}
use Rattle.hir.specs.Refusals.{refusal_number}
use Rattle.writing.specs.declared.Writer.{Writer}
use Rattle.writing.specs.Wrote.{Writes, moved}
use Rattle.operands.specs.Ranges.{most_ranges}
use Rattle.operands.specs.Whole.{Passing, most_operand_words}
use Rattle.summary.specs.Records.{Holds}
use Rattle.summary.specs.Sections.{most_walks}
use Rattle.summary.specs.Simulates.{most_effects, Left, Walkable}
use Rattle.diagnostics.specs.Diagnosed.{most_diagnosed}
use Rattle.copies.specs.Functions.{Functions}
use Rattle.dataflow.specs.declared.function.HirFunction.{HirFunction}
use Rattle.dataflow.specs.Function.{Limited, Describes, Tracking, Stands}
use Rattle.dataflow.specs.declared.function.Read.{Read}

-- unless `copies`, no effect of the sheet is copied
abbrev pub NoneUnless : Bool → List ℕ → Type 0
NoneUnless copies sheet = copies ≡ false → (s : Sheet) → IsSheet sheet s → copied s ≡ []

-- `applies` says whether an instruction of the sheet has Apply
abbrev pub AppliesIs : Bool → List ℕ → Type 0
AppliesIs b sheet = (s : Sheet) → IsSheet sheet s → b ≡ applies s

-- there is no record, and the ends are those of the first n words
pub record Keeps (n : ℕ) (ws ws' : List ℕ) : Type 0 where
  pub records : (x : ℕ) → x < most_identifiers → get_or ws' (RECORD + x) 0 ≡ 0
  pub ends : (x : ℕ) → x < most_identifiers → end_at (nodes_of ws') x ≡ pick (ltb x n) (get_or ws (END + x) 0) 0
  pub high : drop SEEN ws' ≡ drop SEEN ws
  pub same : length ws' ≡ length ws

-- the sheet s is built, whose inner functions stand in the lists: the state is that before the first mutation, and mutations and renders are pending
pub record Prepared (s : Sheet) (sheet lists ws : List ℕ) (f : HirFunction) (b : Building) : Type 0 where
  pub describes : Describes s sheet f
  pub applies : f.applies ≡ applies s
  pub below : SheetBelow s
  pub limited : Limited f
  pub stands : Stands s lists ws
  pub indexed : Indexed ws
  pub state : state_of ws HANDED ≡ built s
  pub mutations : mutations_of ws b.mutations ≡ (build s).mutations
  pub renders : renders_of ws b.renders ≡ (build s).renders
  pub index : index_of b ≡ (build s).index
  pub pending : Pending ws b.mutations
  pub indexes : index_of b ≤ most_index
  pub few_renders : b.renders ≤ most_renders

-- the refusal of a reading or of what building holds, or its sheet built
abbrev pub PreparedIs : Got Sheet → List ℕ → List ℕ → List ℕ → Result Read Refusal → Type 0
PreparedIs (refused k) sheet ws ws' (Err j) = (refusal_number j ≡ k) × (length ws' ≡ length ws)
PreparedIs (refused k) sheet ws ws' (Ok r) = ⊥
PreparedIs (got s c) sheet ws ws' (Err j) = ⊥
PreparedIs (got s c) sheet ws ws' (Ok r) = Prepared s sheet sheet ws' r.function r.building × (length ws' ≡ length ws)

-- what was prepared by a reading that gave x
pub record Prepares (x : Got Sheet) (sheet ws ws' : List ℕ) (r : Result Read Refusal) : Type 0 where
  pub is : PreparedIs x sheet ws ws' r

-- the words of params and context
abbrev pub most_tracked_words : ℕ
most_tracked_words = (1 + place_width * most_params) + (1 + place_width * most_context)

-- the params and the context of s were written, t having the records of the words
pub record TrackedPut (ws : List ℕ) (f : HirFunction) (o o' : Writer ℕ) : Type 0 where
  pub wrote : (s : Sheet) (sheet : List ℕ) (t : State) → Describes s sheet f → Tracking s ws → Holds ws t
      → Writes (section place_words (map (marked t) s.params) ++ section place_words (map (marked t) s.context)) o o'
  pub few : o'.at ≤ o.at + most_tracked_words

-- the words of the sections from params to walks
abbrev pub most_middle : ℕ
most_middle = most_tracked_words + most_diagnosed + most_effects + most_walks

-- they were written; what all walks left stands in the words, and further ones can run on it. The tracked places have their marks now; the inner functions are where they were
pub record MiddlePut (sheet lists ws : List ℕ) (f : HirFunction) (b : Building) (o : Writer ℕ) (ws' : List ℕ) (o' : Writer ℕ) : Type 0 where
  pub wrote : (s : Sheet) → Prepared s sheet lists ws f b → Writes (middle_words (answer s)) o o'
  pub left : (s : Sheet) → Prepared s sheet lists ws f b → Left s ws' (f.params + f.context + 1) (index_of b + (f.params + f.context + 1))
  pub functions : (s : Sheet) → Prepared s sheet lists ws f b → Functions lists ws' s.functions
  pub walkable : Walkable ws ws'
  pub few : o'.at ≤ o.at + most_middle

-- the four sections of the pass were written, then the ranges from `first` on
pub record PassedPut (sheet lists : List ℕ) (f : HirFunction) (ws : List ℕ) (first : ℕ) (o : Writer ℕ) (ws' : List ℕ) (o' : Writer ℕ) : Type 0 where
  pub between : Writer ℕ
  pub operands : (s : Sheet) → Passing s sheet lists ws f → Writes (operand_words (answer s)) o between
  pub last : Writer ℕ
  pub ranges : (s : Sheet) → Passing s sheet lists ws f → Writes (section range_words (answer s).ranges) (moved between first) last
  pub end : o' ≡ moved last between.at
  pub kept : Kept STARTS PASSED ws ws'
  pub few : o'.at ≤ o.at + most_operand_words

-- the words of an answer
abbrev pub most_answer : ℕ
most_answer = most_ranges + most_middle + most_operand_words

-- the answer of s was written, as far as there is room; what all walks left stands in the words, and further ones can run on it
pub record AnswerPut (sheet lists ws : List ℕ) (f : HirFunction) (b : Building) (o : Writer ℕ) (ws' : List ℕ) (o' : Writer ℕ) : Type 0 where
  pub wrote : (s : Sheet) → Prepared s sheet lists ws f b → Writes (answer_words (answer s)) o o'
  pub left : (s : Sheet) → Prepared s sheet lists ws f b → Left s ws' (f.params + f.context + 1) (index_of b + (f.params + f.context + 1))
  pub walkable : Walkable ws ws'
  pub few : o'.at ≤ o.at + most_answer
