-- The stores in which acts and starts end.
use Rattle.std.proofs.Common.{◌≡◌, ◌≢◌, ◌⊎◌, ℕ, ◌+◌, ◌*◌, Bool, true, false, List, [], ◌∷◌, length, get_or, Option, Some, None, IfSome, refl, sym, ap, subst, ◌∙◌, inl, inr, ⊎_elim, cond}
use Rattle.std.specs.Prelude.{◌==◌, ◌&&◌, ◌||◌, not, nat_lt}
use Rattle.std.proofs.lemmas.Bool.{cond_both, eqb-true, and_parts}
use Rattle.dg_nor.specs.Trail.{Stage, Trail, last, joined, resting}
use Rattle.dg_nor.specs.Through.{AllAfter, Through}
use Rattle.dg_nor.proofs.ThroughLemmas.{Through-joined, Through-resting, Through-stepping}
use Rattle.dg_nor.proofs.TrailLemmas.{last-joined, last-resting, last-stepping}
use Rattle.dg_control.specs.Store.{commit_operations}
use Rattle.dg_control.specs.declared.snapshot.Order.{Order}
use Rattle.dg_slot.specs.Kept.{Held}
use Rattle.dg_volume.specs.Sizes.{golden_version, short_starts, copy_operations}
use Rattle.dg_volume.specs.Store.{Store, App, held}
use Rattle.dg_volume.specs.Changes.{spent}
use Rattle.dg_volume.specs.Trails.{committing}
use Rattle.dg_volume.specs.Start.{Runs, Boot, behind, counts, count_trail, by_gesture, order_waits, complete_pages, is_whole, is_set_to, blank_by, blank_trail, copy_trail, app_of, kept_runs, order_boot, golden_done, finish_trail, golden_copied, golden_stays, golden_by, golden_boot, kept_by, kept_boot, waived_once, boot_counted, boot, sound}
use Rattle.dg_volume.specs.Ends.{IsGolden, IsOrdered, MayBoot, OnTheWay, Boots}
use Rattle.dg_volume.specs.declared.volume.StartCause.{StartCause}
use Rattle.dg_volume.proofs.BeginLemmas.{finish_begins, kept_begins, counted_begins}

-- ---- what is unchanged on the way

-- the store has the kept images, the program memory and the order of another
record Same (s t : Store) : Type 0 where
  kept : t.kept ≡ s.kept
  app : t.app ≡ s.app
  order : t.order ≡ s.order

same_way : (s t : Store) (runs : Option Runs) → Same s t → OnTheWay s runs t
same_way s t runs e = record { kept = e.kept; order = e.order; app = inl e.app }

-- what is on the way from t is on the way from s
way_from : (s t x : Store) (runs : Option Runs) → Same s t → OnTheWay t runs x → OnTheWay s runs x
way_from s t x runs e w = record {
  kept = w.kept ∙ e.kept;
  order = w.order ∙ e.order;
  app = ⊎_elim (λ here. inl (here ∙ e.app)) (λ other. inr other) w.app;
}

blank_way : (s t : Store) (runs : Option Runs) → t.kept ≡ s.kept → t.order ≡ s.order → t.app ≡ None → OnTheWay s runs t
blank_way s t runs kept order none = record { kept = kept; order = order; app = inr (inl none) }

set_way : (s t : Store) (r : Runs) → t.kept ≡ s.kept → t.order ≡ s.order → t.app ≡ Some (app_of r) → OnTheWay s (Some r) t
set_way s t r kept order app = record { kept = kept; order = order; app = inr (inr (r, refl, app)) }

itself : (s : Store) → Same s s
itself s = record { kept = refl; app = refl; order = refl }

commit_way : (s a b : Store) (runs : Option Runs) → OnTheWay s runs a → OnTheWay s runs b → Through (OnTheWay s runs) (committing a b)
commit_way s a b runs p q = Through-stepping (OnTheWay s runs) a (commit_operations a.room) b p q

-- ---- program memory is blank, and a copy is made

record Blanked (s b : Store) : Type 0 where
  kept : b.kept ≡ s.kept
  order : b.order ≡ s.order
  app : b.app ≡ None

blanked_by : (s : Store) (o : Option App) → s.app ≡ o → Blanked s (last (blank_by o s))
blanked_by s None e = subst (Blanked s) (sym (last-resting s 0)) (record { kept = refl; order = refl; app = e })
blanked_by s (Some app) e =
    let t : Store = record (spent s) { app = None } in
    subst (Blanked s) (sym (last-stepping s (commit_operations s.room) t)) (record { kept = refl; order = refl; app = refl })

blanked : (s : Store) → Blanked s (last (blank_trail s))
unfolding blank_trail
blanked s = blanked_by s s.app refl

blank_through_by : (s : Store) (o : Option App) (runs : Option Runs) → Through (OnTheWay s runs) (blank_by o s)
blank_through_by s None runs = Through-resting (OnTheWay s runs) s 0 (same_way s s runs (itself s))
blank_through_by s (Some app) runs =
    let t : Store = record (spent s) { app = None } in
    commit_way s s t runs (same_way s s runs (itself s)) (blank_way s t runs refl refl refl)

blank_through : (s : Store) (runs : Option Runs) → Through (OnTheWay s runs) (blank_trail s)
unfolding blank_trail
blank_through s runs = blank_through_by s s.app runs

copied_through : (s : Store) (r : Runs) (u : Trail Store) → Through (OnTheWay s (Some r)) u → Through (OnTheWay s (Some r)) (joined (blank_trail s) (joined (copy_trail (last (blank_trail s)) r.pages) u))
copied_through s r u rest =
    let b = last (blank_trail s) in
    let x = blanked s in
    Through-joined (OnTheWay s (Some r)) (blank_trail s) (joined (copy_trail b r.pages) u) (blank_through s (Some r))
    (Through-joined (OnTheWay s (Some r)) (copy_trail b r.pages) u (Through-resting (OnTheWay s (Some r)) b (copy_operations * length r.pages) (blank_way s b (Some r) x.kept x.order x.app)) rest)

copied_last : (s : Store) (pages : List (List ℕ)) (u : Trail Store) → u.first ≡ last (blank_trail s) → last (joined (blank_trail s) (joined (copy_trail (last (blank_trail s)) pages) u)) ≡ last u
unfolding joined
copied_last s pages u first =
    let b = last (blank_trail s) in
    let n = copy_operations * length pages in
    last-joined (blank_trail s) (joined (copy_trail b pages) u) refl ∙ last-joined (copy_trail b pages) u (last-resting b n ∙ sym first)

-- ---- the last commit of a golden start

finish_through : (s t : Store) (r : Runs) (three : Bool) → OnTheWay s (Some r) t → Through (OnTheWay s (Some r)) (finish_trail t r three)
unfolding finish_trail
finish_through s t r three w =
    cond_both (nat_lt 0 t.room && (not (is_set_to t.app 0 golden_version) || three)) (committing t (golden_done t r three)) (resting t 0) (Through (OnTheWay s (Some r)))
    (λ _. commit_way s t (golden_done t r three) (Some r) w (set_way s (golden_done t r three) r w.kept w.order refl))
    (λ _. Through-resting (OnTheWay s (Some r)) t 0 w)

finish_last : (t : Store) (r : Runs) (three : Bool) → ((last (finish_trail t r three)).app ≡ Some (app_of r)) ⊎ (last (finish_trail t r three) ≡ t)
unfolding finish_trail
finish_last t r three =
    cond_both (nat_lt 0 t.room && (not (is_set_to t.app 0 golden_version) || three)) (committing t (golden_done t r three)) (resting t 0)
    (λ u. ((last u).app ≡ Some (app_of r)) ⊎ (last u ≡ t))
    (λ _. inl (ap (λ (x : Store). x.app) (last-stepping t (commit_operations t.room) (golden_done t r three))))
    (λ _. inr (last-resting t 0))

golden_is : (s : Store) → IsGolden (kept_runs s 0 golden_version)
golden_is s = record { image = refl; version = refl }

copied_boots : (s : Store) (three : Bool) → Boots s (golden_copied s three)
copied_boots s three =
    let r = kept_runs s 0 golden_version in
    let b = last (blank_trail s) in
    let f = finish_trail b r three in
    let x = blanked s in
    let copied : Boot = record { runs = Some r; trail = joined (blank_trail s) (joined (copy_trail b r.pages) f) } in
    let none : Boot = record { runs = None; trail = resting s 0 } in
    let end : last (joined (blank_trail s) (joined (copy_trail b r.pages) f)) ≡ last f = copied_last s r.pages f (finish_begins b r three).first in
    cond_both (sound s 0) copied none (Boots s)
    (λ _. record {
      way = copied_through s r f (finish_through s b r three (blank_way s b (Some r) x.kept x.order x.app));
      chosen = inl (golden_is s);
      memory = ⊎_elim
          (λ done. inl (ap (λ (t : Store). t.app) end ∙ done))
          (λ rest. inr (ap (λ (t : Store). t.app) (end ∙ rest) ∙ x.app, golden_is s))
          (finish_last b r three);
    })
    (λ _. record { way = Through-resting (OnTheWay s None) s 0 (same_way s s None (itself s)); chosen = tt; memory = tt })

-- ---- golden that is in program memory

same_app : (a b : App) → a.image ≡ b.image → a.version ≡ b.version → a.pages ≡ b.pages → a ≡ b
same_app a b p q r =
    ap (λ (x : ℕ). record { image = x; version = a.version; pages = a.pages }) p
    ∙ ap (λ (x : ℕ). record { image = b.image; version = x; pages = a.pages }) q
    ∙ ap (λ (x : List (List ℕ)). record { image = b.image; version = b.version; pages = x }) r

stays_boots : (s : Store) (app : App) (three : Bool) → s.app ≡ Some app → is_set_to (Some app) 0 golden_version ≡ true → Boots s (golden_stays s app three)
stays_boots s app three here is =
    let r : Runs = record { image = 0; version = golden_version; pages = app.pages } in
    let image : app.image ≡ 0 = eqb-true app.image 0 ((and_parts (app.image == 0) (app.version == golden_version) is).0) in
    let version : app.version ≡ golden_version = eqb-true app.version golden_version ((and_parts (app.image == 0) (app.version == golden_version) is).1) in
    let set_to : s.app ≡ Some (app_of r) = here ∙ ap Some (same_app app (app_of r) image version refl) in
    record {
      way = finish_through s s r three (same_way s s (Some r) (itself s));
      chosen = inl (record { image = refl; version = refl });
      memory = inl (⊎_elim (λ done. done) (λ rest. ap (λ (t : Store). t.app) rest ∙ set_to) (finish_last s r three));
    }

golden_boots_by : (s : Store) (three : Bool) (o : Option App) → s.app ≡ o → Boots s (golden_by o s three)
golden_boots_by s three None e = copied_boots s three
golden_boots_by s three (Some app) e =
    cond_both (is_set_to (Some app) 0 golden_version) (golden_stays s app three) (golden_copied s three) (Boots s) (λ is. stays_boots s app three e is) (λ _. copied_boots s three)

golden_boots : (s : Store) (three : Bool) → Boots s (golden_boot s three)
unfolding golden_boot
golden_boots s three = golden_boots_by s three s.app refl

kept_boots_by : (s : Store) (three : Bool) (o : Option App) → s.app ≡ o → Boots s (kept_by o s three)
kept_boots_by s three (Some app) e =
    let r : Runs = record { image = app.image; version = app.version; pages = app.pages } in
    record {
      way = Through-resting (OnTheWay s (Some r)) s 0 (same_way s s (Some r) (itself s));
      chosen = inr (inl e);
      memory = inl (ap (λ (t : Store). t.app) (last-resting s 0) ∙ e);
    }
kept_boots_by s three None e = golden_boots s three

kept_boots : (s : Store) (three : Bool) → Boots s (kept_boot s three)
unfolding kept_boot
kept_boots s three = kept_boots_by s three s.app refl

-- ---- the ordered image

not_zero : (n : ℕ) → not (n == 0) ≡ true → n ≢ 0
not_zero n h e = let f : not (n == 0) ≡ false = ap (λ (m : ℕ). not (m == 0)) e in let g : true ≡ false = sym h ∙ f in absurd cc

ordered_is : (s : Store) → order_waits s ≡ true → IsOrdered s (kept_runs s s.order.image s.order.version)
ordered_is s waits =
    let one = (and_parts (not (s.order.number == 0)) _ waits).1 in
    let two = (and_parts (not s.waived) _ one).1 in
    record {
      some = not_zero s.order.number ((and_parts (not (s.order.number == 0)) _ waits).0);
      image = refl;
      version = refl;
      whole = (and_parts (is_whole (held s s.order.image) s.order.version) _ two).0;
      pages = refl;
    }

ordered_boots : (s : Store) → order_waits s ≡ true → Boots s (order_boot s)
unfolding order_boot
ordered_boots s waits =
    let r = kept_runs s s.order.image s.order.version in
    let b = last (blank_trail s) in
    let x = blanked s in
    let t : Store = record (spent b) { app = Some (app_of r) } in
    let u = committing b t in
    record {
      way = copied_through s r u (commit_way s b t (Some r) (blank_way s b (Some r) x.kept x.order x.app) (set_way s t r x.kept x.order refl));
      chosen = inr (inr (ordered_is s waits));
      memory = inl (ap (λ (y : Store). y.app) (copied_last s r.pages u refl ∙ last-stepping b (commit_operations b.room) t));
    }

-- ---- a trail that comes before a start

ordered_from : (s t : Store) (r : Runs) → Same s t → IsOrdered t r → IsOrdered s r
ordered_from s t r e is =
    let whole_in : List (Option Held) → Order → Bool = λ ks o. is_whole (get_or ks o.image None) o.version in
    let pages_in : List (Option Held) → Order → List (List ℕ) = λ ks o. complete_pages (get_or ks o.image None) in
    record {
      some = λ none. is.some (ap (λ (o : Order). o.number) e.order ∙ none);
      image = is.image ∙ ap (λ (o : Order). o.image) e.order;
      version = is.version ∙ ap (λ (o : Order). o.version) e.order;
      whole = sym (ap (λ ks. whole_in ks t.order) e.kept ∙ ap (whole_in s.kept) e.order) ∙ is.whole;
      pages = is.pages ∙ ap (λ ks. pages_in ks t.order) e.kept ∙ ap (pages_in s.kept) e.order;
    }

run_from : (s t : Store) (r : Runs) → Same s t → MayBoot t r → MayBoot s r
run_from s t r e may =
    ⊎_elim
    (λ golden. inl golden)
    (λ other. inr (⊎_elim (λ here. inl (sym e.app ∙ here)) (λ is. inr (ordered_from s t r e is)) other))
    may

chosen_from : (s t : Store) (o : Option Runs) → Same s t → IfSome o (MayBoot t) → IfSome o (MayBoot s)
chosen_from s t None e chosen = tt
chosen_from s t (Some r) e chosen = run_from s t r e chosen

module _ (P Q : Store → Type 0) (f : (x : Store) → P x → Q x) where
  all_map : (xs : List (Stage Store)) → AllAfter P xs → AllAfter Q xs
  unfolding AllAfter
  all_map [] p = tt
  all_map (x ∷ xs) p = (f x.after p.0, all_map xs p.1)

  through_map : (t : Trail Store) → Through P t → Through Q t
  through_map t p = (f t.first p.0, all_map t.stages p.1)

memory_from : (u v : Store) (o : Option Runs) → u ≡ v → IfSome o (λ r. (v.app ≡ Some (app_of r)) ⊎ ((v.app ≡ None) × IsGolden r)) → IfSome o (λ r. (u.app ≡ Some (app_of r)) ⊎ ((u.app ≡ None) × IsGolden r))
memory_from u v o e memory = subst (λ (x : Store). IfSome o (λ r. (x.app ≡ Some (app_of r)) ⊎ ((x.app ≡ None) × IsGolden r))) (sym e) memory

-- a trail that changes none of these comes before a start
behind_boots : (s t : Store) (first : Trail Store) (b : Boot) → Same s t → Through (OnTheWay s b.runs) first → last first ≡ t → b.trail.first ≡ t → Boots t b → Boots s (behind first b)
behind_boots s t first b e way end begins x = record {
  way = Through-joined (OnTheWay s b.runs) first b.trail way (through_map (OnTheWay t b.runs) (OnTheWay s b.runs) (λ y w. way_from s t y b.runs e w) b.trail x.way);
  chosen = chosen_from s t b.runs e x.chosen;
  memory = memory_from (last (joined first b.trail)) (last b.trail) b.runs (last-joined first b.trail (end ∙ sym begins)) x.memory;
}

counted_boots : (s : Store) → Boots s (boot_counted s)
unfolding boot_counted
counted_boots s =
    let three = s.gesture == short_starts in
    let w = waived_once s in
    let waived = behind (committing s w) (kept_boot w three) in
    let ordered = cond (sound s s.order.image) (order_boot s) waived in
    let same : Same s w = record { kept = refl; app = refl; order = refl } in
    let runs = (kept_boot w three).runs in
    cond_both (by_gesture s) (golden_boot s true) (cond (order_waits s) ordered (kept_boot s three)) (Boots s) (λ _. golden_boots s true)
    (λ _. cond_both (order_waits s) ordered (kept_boot s three) (Boots s)
    (λ waits. cond_both (sound s s.order.image) (order_boot s) waived (Boots s) (λ _. ordered_boots s waits)
    (λ _. behind_boots s w (committing s w) (kept_boot w three) same (commit_way s s w runs (same_way s s runs (itself s)) (same_way s w runs same))
    (last-stepping s (commit_operations s.room) w) (kept_begins w three).first (kept_boots w three)))
    (λ _. kept_boots s three))

-- ---- the short starts are counted

counted_same : (k : StartCause) (s : Store) → Same s (last (count_trail k s))
unfolding count_trail
counted_same k s =
    let t : Store = record (spent s) { gesture = s.gesture + 1 } in
    cond_both (counts k s) (committing s t) (resting s 0) (λ u. Same s (last u))
    (λ _. subst (Same s) (sym (last-stepping s (commit_operations s.room) t)) (record { kept = refl; app = refl; order = refl }))
    (λ _. subst (Same s) (sym (last-resting s 0)) (itself s))

counted_way : (k : StartCause) (s : Store) (runs : Option Runs) → Through (OnTheWay s runs) (count_trail k s)
unfolding count_trail
counted_way k s runs =
    let t : Store = record (spent s) { gesture = s.gesture + 1 } in
    cond_both (counts k s) (committing s t) (resting s 0) (Through (OnTheWay s runs))
    (λ _. commit_way s s t runs (same_way s s runs (itself s)) (same_way s t runs (record { kept = refl; app = refl; order = refl })))
    (λ _. Through-resting (OnTheWay s runs) s 0 (same_way s s runs (itself s)))

pub boot_boots : (k : StartCause) (s : Store) → Boots s (boot k s)
unfolding boot
boot_boots k s =
    let t = last (count_trail k s) in
    behind_boots s t (count_trail k s) (boot_counted t) (counted_same k s) (counted_way k s (boot_counted t).runs) refl (counted_begins t).first (counted_boots t)
