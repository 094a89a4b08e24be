-- Acts of a start that follow one another, and its commits.
use Rattle.std.proofs.Common.{◌≡◌, ℕ, ◌+◌, ◌<◌, ◌≤◌, Bool, true, false, Option, Some, None, refl, sym, ap, ◌∙◌, arith}
use Rattle.std.proofs.lemmas.Bool.{cond_both, and_parts}
use Rattle.std.proofs.lemmas.Bool.Decides.{nat_tests}
use Rattle.std.specs.Prelude.{◌%◌, ◌==◌, not, nat_lt, if◌then◌else◌}
use Rattle.dg_nor.specs.Device.{Device}
use Rattle.dg_nor.specs.Trail.{Trail, last, joined, resting}
use Rattle.dg_nor.proofs.TrailLemmas.{operations-stepping, operations-joined}
use Rattle.dg_control.specs.Store.{commit_operations}
use Rattle.dg_control.specs.declared.snapshot.Program.TheVariants.{Blank, Set}
use Rattle.dg_volume.specs.Sizes.{short_starts}
use Rattle.dg_volume.specs.Store.{App, Store}
use Rattle.dg_volume.specs.Told.{program_told}
use Rattle.dg_volume.specs.Stands.{Mounted}
use Rattle.dg_volume.specs.Changes.{spent}
use Rattle.dg_volume.specs.Trails.{committing, advance_trail}
use Rattle.dg_volume.specs.Start.{Runs, app_of, counts, count_trail, blank_by, blank_trail, golden_done, finish_trail}
use Rattle.dg_volume.specs.Acts.{Acted}
use Rattle.dg_volume.specs.declared.volume.Volume.{Volume}
use Rattle.dg_volume.specs.declared.volume.StartCause.{StartCause}
use Rattle.dg_volume.specs.declared.volume.StartCause.TheVariants.{Power, Order}
use Rattle.dg_volume.proofs.ActLemmas.{acted_none, acted_then}
use Rattle.dg_boot.specs.Loads.{IsApp}
use Rattle.dg_boot.specs.Ends.{TrailWent, finishes}

-- ---- acts

pub went_none : (s : Store) (a : Device) (v : Volume) → Mounted a.image v s → TrailWent (resting s 0) a a v
went_none s a v mounted = record { acted = acted_none s a v mounted; idle = λ _. refl }

pub went_then : (t u : Trail Store) (a b c : Device) (v w : Volume) → last t ≡ u.first → TrailWent t a b v → TrailWent u b c w → TrailWent (joined t u) a c w
went_then t u a b c v w same p q = record {
  acted = acted_then t u a b c v w same p.acted q.acted;
  idle = λ none.
      let sum = operations-joined t u in
      q.idle (omega (arith, sum, none)) ∙ p.idle (omega (arith, sum, none));
}

commit_works : (room : ℕ) → 0 < commit_operations room
commit_works room = cond_both (room % 32 == 0) 4 2 (λ n. 0 < n) (λ _. omega arith) (λ _. omega arith)

pub commit_went : (s next : Store) (a b : Device) (v : Volume) → Acted (committing s next) a b v → TrailWent (committing s next) a b v
commit_went s next a b v acted = record {
  acted = acted;
  idle = λ none.
      let n = operations-stepping s (commit_operations s.room) next in
      let some = commit_works s.room in
      absurd (omega (arith, n, some, none));
}

-- ---- the short starts

pub counted : (k : StartCause) (s : Store) → counts k s ≡ true → count_trail k s ≡ committing s (record (spent s) { gesture = s.gesture + 1 })
unfolding count_trail
counted k s h = ap (λ (b : Bool). if b then committing s (record (spent s) { gesture = s.gesture + 1 }) else resting s 0) h

pub not_counted : (k : StartCause) (s : Store) → counts k s ≡ false → count_trail k s ≡ resting s 0
unfolding count_trail
not_counted k s h = ap (λ (b : Bool). if b then committing s (record (spent s) { gesture = s.gesture + 1 }) else resting s 0) h

pub record Counts (s : Store) : Type 0 where
  pub few : s.gesture < short_starts
  pub room : 1 ≤ s.room

below : (m n : ℕ) → nat_lt m n ≡ true → m < n
below m n h = grind (arith, nat_tests)

pub counts_room : (k : StartCause) (s : Store) → counts k s ≡ true → Counts s
counts_room Power s h =
    let parts = and_parts (nat_lt s.gesture short_starts) (nat_lt 0 s.room) h in
    record { few = below s.gesture short_starts parts.0; room = below 0 s.room parts.1 }
counts_room Order s h = absurd cc

-- ---- commits, by what a snapshot says

pub advance_told : (s : Store) (app : Option App) (g h : ℕ) (w x : Bool) → g ≡ h → w ≡ x → advance_trail s app g w ≡ advance_trail s app h x
advance_told s app g h w x e f = ap (λ (n : ℕ). advance_trail s app n w) e ∙ ap (λ (b : Bool). advance_trail s app h b) f

pub app_none : (a : Option App) → Blank ≡ program_told a → a ≡ None
app_none None e = refl
app_none (Some app) e = absurd cc

pub record HasApp (a : Option App) (i v : ℕ) : Type 0 where
  pub app : App
  pub is : a ≡ Some app
  pub image : app.image ≡ i
  pub version : app.version ≡ v

pub app_some : (a : Option App) (i v : ℕ) → Set i v ≡ program_told a → HasApp a i v
app_some None i v e = absurd cc
app_some (Some app) i v e = record { app = app; is = refl; image = cc; version = cc }

pub blank_none : (s : Store) → s.app ≡ None → blank_trail s ≡ resting s 0
unfolding blank_trail
blank_none s e = ap (λ (a : Option App). blank_by a s) e

pub blank_some : (s : Store) (app : App) → s.app ≡ Some app → blank_trail s ≡ committing s (record (spent s) { app = None })
unfolding blank_trail
blank_some s app e = ap (λ (a : Option App). blank_by a s) e

pub set_told : (app : App) (i v : ℕ) → IsApp app i v → Set i v ≡ program_told (Some app)
set_told app i v is = ap (λ (x : ℕ). Set x v) (sym is.image) ∙ ap (λ (x : ℕ). Set app.image x) (sym is.version)

-- ---- the last commit of a golden start

pub finished : (s : Store) (r : Runs) (three : Bool) → finishes s three ≡ true → finish_trail s r three ≡ committing s (golden_done s r three)
unfolding finish_trail
finished s r three h = ap (λ (b : Bool). if b then committing s (golden_done s r three) else resting s 0) h

pub not_finished : (s : Store) (r : Runs) (three : Bool) → finishes s three ≡ false → finish_trail s r three ≡ resting s 0
unfolding finish_trail
not_finished s r three h = ap (λ (b : Bool). if b then committing s (golden_done s r three) else resting s 0) h

pub done_three : (s : Store) (r : Runs) (three waived : Bool) (n : ℕ) → three ≡ true → n ≡ s.order.number → waived ≡ not (n == 0) → advance_trail s (Some (app_of r)) 0 waived ≡ committing s (golden_done s r three)
done_three s r three waived n h same e =
    advance_told s (Some (app_of r)) 0 0 waived (not (s.order.number == 0)) refl (e ∙ ap (λ (m : ℕ). not (m == 0)) same)
    ∙ ap (λ (b : Bool). committing s (golden_done s r b)) (sym h)

pub done_kept : (s : Store) (r : Runs) (three waived : Bool) (g : ℕ) → three ≡ false → g ≡ s.gesture → waived ≡ s.waived → advance_trail s (Some (app_of r)) g waived ≡ committing s (golden_done s r three)
done_kept s r three waived g h same e =
    advance_told s (Some (app_of r)) g s.gesture waived s.waived same e ∙ ap (λ (b : Bool). committing s (golden_done s r b)) (sym h)
