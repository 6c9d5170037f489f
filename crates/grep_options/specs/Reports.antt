-- What is printed of an input with a report.
use Rattle.std.specs.Prelude.{ℕ, Bool, true, false, None, min}
pub use Rattle.grep_options.specs.declared.options.Context.{Context}
pub use Rattle.grep_options.specs.declared.options.Report.{Report}
use Rattle.grep_options.specs.declared.options.Report.TheVariants.{Lines, Count}

-- whether selected lines are printed
abbrev pub shows : Report → Bool
shows Lines = true
shows _ = false

-- after how many selected lines a search ends that would end after this number: at most one, if only the first matters
abbrev pub limit_of : Report → ℕ → ℕ
limit_of Lines limit = limit
limit_of Count limit = limit
limit_of _ limit = min limit 1

-- around which lines others are printed: around none if no lines are printed
abbrev pub context_of : Report → Context → Context
context_of Lines context = context
context_of _ context = record context { before = 0; after = 0; separated = false; colours = None }
