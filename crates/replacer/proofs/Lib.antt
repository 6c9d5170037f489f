-- The lemmas on changes, on the case of letters, on fillings, on files that are written, on hits, on limits, on lists,
-- on what is printed and on runs over lines.
pub mod CaseLemmas
pub mod ChangeLemmas
pub mod FillingLemmas
pub mod GoingLemmas
pub mod MeantLemmas
pub mod PrintedLemmas
pub mod ZipLemmas
