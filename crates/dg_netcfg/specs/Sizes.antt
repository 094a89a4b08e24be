-- The numbers of a network profile (docs/COMMANDS.md, "Serve").
use Rattle.std.specs.Prelude.{ℕ}
pub use Rattle.dg_base.specs.Sizes.{most_motes, greatest_port}

-- the least port that a profile may name: those below are the system's (RFC 6335, section 6)
abbrev pub least_port : ℕ
least_port = 1024
