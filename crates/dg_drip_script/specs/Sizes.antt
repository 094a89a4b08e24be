-- The ranges of the numbers in a script of nodes (docs/SCRIPTS.md, "Scripts of nodes").
use Rattle.std.specs.Prelude.{ℕ}
pub use Rattle.dg_script.specs.Sizes.{most_events, most_sweeps, most_line, most_used_bytes, most_number}
pub use Rattle.dg_drip.specs.Sizes.{key_count}

abbrev pub most_nodes : ℕ
most_nodes = 16
