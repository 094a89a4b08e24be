-- What a map keeps of the counts of versions (docs/COMMANDS.md, "A picture of a report").
use Rattle.std.specs.Prelude.{ℕ, ◌==◌, Option, Some, None, unwrap_or, if◌then◌else◌}
use Rattle.std.specs.Ordering.{nat_cmp}
use Rattle.std.specs.BTreeMap as tree
use Rattle.std.specs.BTreeMap.{BTreeMap}
use Rattle.dg_story.specs.declared.reports.Pages.{Pages}

abbrev pub held : BTreeMap ℕ ℕ → (version : ℕ) → ℕ
held counts version = unwrap_or (tree.get nat_cmp counts version) 0

abbrev pub counted_of : (version : ℕ) → Option Pages → ℕ
counted_of version None = 0
counted_of version (Some pages) = if pages.version == version then pages.count else 0
