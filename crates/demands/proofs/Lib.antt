-- Slots that were cut, tables and what is read from them, the invariant, and how a program or erase ends.
pub mod Torn
pub mod Tables
pub mod Invariant
pub mod Endings
-- Each write by what it leaves, cut or not, and by what it comes to on a healthy flash.
pub mod SafeFilling
pub mod SafeSectors
pub mod SafeCommits
pub mod SafeAppends
pub mod HealthyReaching
pub mod SafePerforming
pub mod CallsAttaining
pub mod FiguresSucceeding
pub mod SafeFirst
-- What the calls decide, that each is safe, and the demands on sessions.
pub mod CallsDeciding
pub mod CallsTrying
pub mod CallsShapes
pub mod SafeCalls
pub mod Demand3
pub mod PulledStickSpends
pub mod PulledStick
-- How any call ends on any image, log and plan, and what follows from that.
pub mod CallsTracing
pub mod CallsCourses
pub mod Demand1
pub mod Demand2
pub mod WearLaws
pub mod WearCalls
pub mod Figures
pub mod LeavesLaws
pub mod WearSparing
pub mod WearSpared
-- All the demands, as one theorem.
pub mod Demands
