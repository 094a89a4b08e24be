-- What happens after a frame that is noted.
use Rattle.std.proofs.Common.{ℕ, List, ◌∷◌, sym, subst}
use Rattle.std.specs.List.{AllByRecursion}
use Rattle.dg_nor.specs.Trail.{last}
use Rattle.dg_quiet.specs.Noted.{Noted}
use Rattle.dg_volume.specs.Store.{Store}
use Rattle.dg_mote.specs.Model.{MoteState}
use Rattle.dg_mote.specs.Hears.{heard_of}
use Rattle.dg_mote.specs.Rules.{MoteEvent, Hears, sent_while, AllBetween, NoRequest}
use Rattle.dg_mote.proofs.SilentLemmas.{heard_silent}
use Rattle.dg_mote.proofs.QuietLemmas.{Shuts, IsQuiet, quiet_in}

-- it does not ask until then
pub after_noted : (image from until : ℕ) (Noting : Noted → Type 0) (shuts : Shuts image from until Noting) (m : MoteState) (s : Store) (now word : ℕ) (bytes : List ℕ) (events : List MoteEvent)
    → IsQuiet image from until Noting shuts (heard_of m s now word bytes).mote → AllBetween from until events → AllByRecursion (NoRequest image) (sent_while (Hears now word bytes ∷ events) m s)
unfolding sent_while
after_noted image from until Noting shuts m s now word bytes events quiet between =
    let step = heard_of m s now word bytes in
    (subst (NoRequest image) (sym (heard_silent m s now word bytes)) tt, quiet_in image from until Noting shuts heard_silent events step.mote (last step.trail) between quiet)
