-- What the command that compares an image with a root did (docs/COMMANDS.md, "Hash-chained images").
use Rattle.std.specs.Prelude.{◌≡◌, ◌⊎◌, ℕ, ◌≤◌, List, [], length, drop, Some, unwrap_or}
use Rattle.dg_base.specs.Hexadecimal.{hex_bytes}
use Rattle.dg_base.specs.declared.answers.Status.{Status}
use Rattle.dg_base.specs.declared.answers.Status.TheVariants.{Done}
use Rattle.dg_slot.specs.Kept.{Held}
use Rattle.dg_volume.specs.Store.{Store, held}
use Rattle.dg_outside.specs.Outside.{Outside}
use Rattle.dg_chain.specs.Chain.{IsPayload, chain, root_of}
use Rattle.dg_chain.specs.Checking.{Collision}
use Rattle.dg_tool.specs.Endings.{FirstAs}
use Rattle.dg_tool.specs.Done.{FirstDone}
use Rattle.dg_tool.specs.Rules.{reading_rule}
use Rattle.dg_chain_tool.specs.Verbs.{check_by}
use Rattle.dg_chain_tool.specs.Done.{TellsLength}

-- the bytes of a root that is spelled in digits
abbrev pub root_in : List ℕ → List ℕ
root_in digits = unwrap_or (hex_bytes digits) []

-- the data pages of an image on the first board were compared with a root
pub record Checked (image : ℕ) (root : List ℕ) (status : Status) (a b : Outside) : Type 0 where
  pub done : FirstDone status (reading_rule a.boards (λ s. check_by root (held s image))) a b
  -- Whatever wrote the board's bytes, pages that pass for the root of a payload are its pages, or two different pages at one
  -- index have the same digest.
  pub named : (x : List ℕ) (s : Store) (h : Held) → IsPayload x → root ≡ root_of x → FirstAs a.boards (Some s)
      → held s image ≡ Some h → status ≡ Done → (drop 1 h.complete ≡ chain x) ⊎ Collision (drop 1 h.complete) (chain x)
  -- Its own pages pass, and its length is reported.
  pub own : (x : List ℕ) (s : Store) (h : Held) → IsPayload x → root ≡ root_of x → FirstAs a.boards (Some s)
      → held s image ≡ Some h → 1 ≤ length a.boards → length h.complete ≡ h.pages → drop 1 h.complete ≡ chain x
      → TellsLength status (length x) a.output b.output
