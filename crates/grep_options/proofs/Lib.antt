mod ColourLemmas
mod GlobLemmas
mod OutcomeLemmas
mod PathLemmas
