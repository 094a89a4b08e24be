-- Which boards keep their bytes where a replay stops.
use Rattle.std.proofs.Common.{◌≡◌, ℕ, Bool, List, [], ◌∷◌, refl}
use Rattle.std.specs.Prelude.{Option, Ok}
use Rattle.dg_nor.specs.Device.{Device}
use Rattle.dg_object.specs.Object.{Row}
use Rattle.dg_rules.specs.World.{World}
use Rattle.dg_script.specs.Items.{Item, items_of}
use Rattle.dg_script.specs.Lines.{line_of}
use Rattle.dg_script.specs.Script.{Script}
use Rattle.dg_script.specs.declared.line.Line.{Line}
use Rattle.dg_replay.specs.Items.{beginning_of}
use Rattle.dg_replay.specs.Replayed.{Untouched}
use Rattle.dg_replay.specs.Playing.{LineBegun}
use Rattle.dg_replay.specs.Replaying.{Reached}
use Rattle.dg_replay.specs.Shown.{Saw}
use Rattle.dg_replay.specs.Stages.{span}
use Rattle.dg_replay.specs.Untouched.{TextKeepsBytes}
use Rattle.dg_replay.specs.declared.player.Player.{Player}
use Rattle.dg_replay.proofs.BytesLemmas.{keep_same, keep_then, untouched_done, untouched_line}
use Rattle.dg_replay.proofs.NextLineLemmas.{Over, at_line, in_line}

-- boards keep their bytes where a line was begun
pub kept_begun : {table : List Row} {S G : Saw} {H : Option World → List Item → Saw} {P : Option World → List Item → List ℕ → Type 0} (ends : Bool) (script : Script) (texts : List (List ℕ)) (text : List ℕ) (n : ℕ) (p : Player) (initial old now : List Device) (before mid : Option (List ℕ)) (line : Line)
    → (r : Reached table ends script (text ∷ texts) n p (span initial old before mid S G)) → TextKeepsBytes p.place text old now → (spelled : line_of p.place text ≡ Ok line) → (b : LineBegun r.done line r.last G H P) → (o : Over (beginning_of r.ground r.done).world r.played b.begun b.world b.text G (H b.world b.left)) → (within : b.left ≡ [] → b.begun ≡ [])
    → Untouched (in_line ends script texts text n p initial old before mid line r spelled b o within) initial now
kept_begun ends script texts text n p initial old now before mid line r kept spelled b o within =
    untouched_line (in_line ends script texts text n p initial old before mid line r spelled b o within) line _ p.place initial old now refl r.stood.place r.untouched (kept line spelled)

-- boards keep their bytes where no line was begun
pub kept_done : {table : List Row} {S G : Saw} (ends : Bool) (script : Script) (texts : List (List ℕ)) (n : ℕ) (p : Player) (initial old now : List Device) (before mid : Option (List ℕ)) → (r : Reached table ends script texts n p (span initial old before mid S G)) → now ≡ old
    → Untouched (at_line ends script texts n p initial old before mid r) initial now
kept_done ends script texts n p initial old now before mid r same =
    untouched_done (at_line ends script texts n p initial old before mid r) initial now (λ none. keep_then (items_of r.done) initial old now (r.untouched none) (keep_same (items_of r.done) old now same))
