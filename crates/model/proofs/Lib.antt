-- The theorems about the definitions, and the laws behind them.
-- the tables of cases and the order of the refusals
pub mod Tables
pub mod AllRefusals
-- one walk: an induction principle, and what it gives
pub mod Induct
pub mod Members
pub mod Raised
pub mod Sound
pub mod Complete
pub mod Follow
pub mod Potential
pub mod Twice
pub mod Fuel
pub mod GraphAlone
pub mod Touched
-- lists of mutations
pub mod Ends
pub mod Sets
pub mod Levels
-- building
pub mod BuiltKeeps
pub mod Steady
pub mod Nodes
pub mod Stored
pub mod Counters
pub mod Counted
pub mod Indexes
pub mod WordsRead
pub mod Held
pub mod HeldMore
-- renders
pub mod RenderBound
pub mod Gathers
pub mod Handed
-- reading
pub mod Either
pub mod Everywhere
pub mod Tallies
pub mod ReadLaws
pub mod Traits
pub mod Got
pub mod InRange
pub mod Distinct
pub mod WhenRead
pub mod Refusing
pub mod Asked
pub mod Ahead
pub mod SheetAhead
pub mod Limited
pub mod TotalsAdded
pub mod CountedSheet
pub mod Overlap
pub mod Collected
pub mod Numbers
pub mod Callers
pub mod Isolation
pub mod BackLaws
pub mod EncoderParts
pub mod Encoder
pub mod FileWords
-- the theorems about whole sheets
pub mod Flows
pub mod Lengths
pub mod Bound
pub mod NodeAssertion
pub mod IndexesBelow
pub mod Quiet
pub mod Demand3
-- the pass over operands
pub mod PassRanges
pub mod EndMoves
pub mod EndAlone
pub mod EndsSet
pub mod SecondProperty
pub mod PassLengths
-- the call
pub mod Buffers
pub mod CallEnds
-- what the call builds on: renders and simulated walks, one after another
pub mod Rendering
pub mod Simulating
-- document 02, order 2: a class load
pub mod LoadTable
pub mod Drawn
pub mod LoadAccepted
-- document 02, order 6: the graph as a DOT file
pub mod Digits
-- document 02, order 8: how sure a parameter's mutation is
pub mod MaybeSteps
pub mod Mutations
pub mod Reports
pub mod Certainty
