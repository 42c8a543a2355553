-- The definitions of document 01, in its order, as the orders of document 02 have changed them. Document 01 is the customer's paper on the sheet and the answer,
-- document 02 has the orders; docs/FORMAT.md has their words for a host.
-- "Answers and refusals" and "The sheet": limits, the tree, one reading, the totals, the words of a file
pub mod Limits
pub mod Lists
pub mod Sheet
pub mod Traits
pub mod Effects
pub mod Reading
pub mod Sections
pub mod Asking
pub mod Totals
pub mod Counting
pub mod Files
-- "Building"
pub mod Graph
pub mod Mutation
pub mod Built
pub mod Building
-- "Walks"
pub mod Size
pub mod State
pub mod Walks
pub mod Renders
pub mod Runs
pub mod Summary
pub mod Simulated
-- document 02, order 4: the pass over operands
pub mod Marks
pub mod Operands
-- "The answer", and the call and the service of "Answers and refusals"
pub mod Answer
pub mod Call
pub mod Overlap
pub mod Collected
pub mod Service
pub mod Callers
-- document 02, order 2: a class load from a seed
pub mod Load
-- document 02, order 6: the graph as a DOT file
pub mod Digits
pub mod Dot
-- "Bench cases", and tables of our own
pub mod Bench
pub mod Small
pub mod Table
pub mod Ours
pub mod Refusals
pub mod Boundaries
pub mod OperandCases
pub mod LoadCases
pub mod DotCases
pub mod CallerCases
-- what is claimed of all this; proofs/ has the theorems
pub mod Ranges
pub mod Distinct
pub mod Encoder
pub mod LoadAccepted
pub mod Indexes
pub mod Bound
pub mod Assertion
pub mod Quiet
pub mod Numbers
pub mod Isolation
pub mod Chain
pub mod Demand3
pub mod EndsSet
pub mod SecondProperty
pub mod CallEnds
pub mod Certainty
