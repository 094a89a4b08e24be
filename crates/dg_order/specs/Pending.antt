-- When an order waits to be started, by what a volume reports (docs/IMAGES.md, "The start").
use Rattle.std.specs.Prelude.{◌≡◌, ◌≢◌, ℕ, ◌≤◌, ◌==◌, ◌&&◌, nat_le, Bool, false, not, Option, Some, None}
use Rattle.dg_control.specs.declared.snapshot.Program.{Program}
use Rattle.dg_control.specs.declared.snapshot.Program.TheVariants.{Blank, Set}
use Rattle.dg_control.specs.declared.snapshot.Snapshot.{Snapshot}

-- program memory is Set to this
abbrev pub is_set : Program → (image version : ℕ) → Bool
is_set Blank image version = false
is_set (Set i v) image version = (i == image) && (v == version)

abbrev pub is_some_version : Option ℕ → ℕ → Bool
is_some_version None version = false
is_some_version (Some v) version = v == version

-- the most commits that the start of an order makes: program memory becomes blank, and is then set
abbrev pub start_commits : ℕ
start_commits = 2

-- There is an order that is not waived, the version that is kept whole is its own, program memory is not Set to it,
-- and there is room to start it.
abbrev pub pending : Snapshot → Option ℕ → ℕ → Bool
pending p whole room =
    not (p.order.number == 0) && (not p.waived && (is_some_version whole p.order.version
    && (not (is_set p.program p.order.image p.order.version) && nat_le start_commits room)))

-- the same as facts: `whole` is the version that is kept whole of the ordered image
pub record Waits (p : Snapshot) (whole : Option ℕ) (commits : ℕ) : Type 0 where
  pub ordered : p.order.number ≢ 0
  pub not_waived : p.waived ≡ false
  pub kept : whole ≡ Some p.order.version
  pub another : p.program ≢ Set p.order.image p.order.version
  pub room : start_commits ≤ commits
