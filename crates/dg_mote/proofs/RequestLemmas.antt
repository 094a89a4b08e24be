-- Requests that are heard over agreeing stores.
use Rattle.dg_frame.specs.Sizes.{known_images}
use Rattle.std.proofs.Common.{◌≡◌, ◌≢◌, ℕ, ◌<◌, Bool, true, false, ◌&&◌, ◌||◌, List, length, Option, Some, None, refl, sym, ap, ◌∙◌}
use Rattle.std.specs.Prelude.{◌==◌, nat_lt}
use Rattle.std.proofs.lemmas.Bool.{cond_both, and_parts, eqb-true, ltb-true}
use Rattle.std.specs.FinSet as set
use Rattle.std.specs.Ordering.{nat_cmp}
use Rattle.dg_bits.specs.Sets.{Numbers}
use Rattle.dg_bits.proofs.SetLaws.{same_numbers, contains-both, contains-none}
use Rattle.dg_nor.specs.Trail.{resting}
use Rattle.dg_send.specs.Steps.{owed_begun, after_merge}
use Rattle.dg_object.specs.Object.{Row}
use Rattle.dg_slot.specs.Kept.{Held}
use Rattle.dg_volume.specs.Store.{Store, held}
use Rattle.dg_volume.specs.Changes.{is_version}
use Rattle.dg_volume.specs.Trails.{done_of}
use Rattle.dg_frame.specs.Ranges.{PageInRange}
use Rattle.dg_quiet.specs.Noted.{with_request}
use Rattle.dg_mote.specs.Model.{MoteState, Mode, Maintain, Receive, Transmit}
use Rattle.dg_mote.specs.Agreement.{ModeAgrees}
use Rattle.dg_mote.specs.Requests.{concerns, can_serve, is_served, to_it, on_request, page_request}
use Rattle.dg_mote.specs.declared.mote.Heard.{Heard}
use Rattle.dg_mote.proofs.KeepLemmas.{Keeps, rests}

-- the page is kept
pub record Complete (s : Store) (image version page : ℕ) : Type 0 where
  pub kept : Held
  pub here : held s image ≡ Some kept
  pub version_is : kept.version ≡ version
  pub complete : page < length kept.complete

complete_by : (o : Option Held) (s : Store) (image version page : ℕ) → held s image ≡ o → (is_version o version && nat_lt page (done_of o)) ≡ true → Complete s image version page
complete_by None s image version page here e = cc
complete_by (Some h) s image version page here e =
    let parts = and_parts (h.version == version) (nat_lt page (length h.complete)) e in
    record { kept = h; here = here; version_is = eqb-true h.version version parts.0; complete = ltb-true page (length h.complete) parts.1 }

pub serves_complete : (s : Store) (image version page : ℕ) → can_serve s image version page ≡ true → Complete s image version page
serves_complete s image version page e = complete_by (held s image) s image version page refl e

-- a union with what is not empty is not empty
neither : (a b : Bool) → (a || b) ≡ false → a ≡ false
neither true b e = e
neither false b e = refl

union_some : (s t : Numbers) → set.len s ≢ 0 → set.len (set.union s t) ≢ 0
union_some s t some none =
    let gone : set.union s t ≡ set.empty = set.empty_of_len (set.union s t) none in
    let nobody : s ≡ set.empty =
    same_numbers s set.empty (λ q. neither (set.contains s q) (set.contains t q) (sym (contains-both s t q) ∙ ap (λ u. set.contains u q) gone ∙ contains-none q) ∙ sym (contains-none q)) in
    some (ap set.len nobody ∙ set.len-empty nat_cmp)

module _ (P : Store → Type 0) (table : List Row) (s : Store) (here : P s) (now : ℕ) where
  begins_serving : (m : MoteState) (image version page : ℕ) (want : Numbers) (answer : Heard) → PageInRange (known_images m.wide) image version page → want ≢ set.empty → Complete s image version page
      → Keeps P table (record { mote = record m { mode = Transmit (record { image = image; version = version; page = page; owed = owed_begun now want }) }; trail = resting s 0; sent = None; answer = answer })
  begins_serving m image version page want answer range some c =
      rests P table (record m { mode = Transmit (record { image = image; version = version; page = page; owed = owed_begun now want }) }) s 0 None answer here
      (record { not_golden = range.first; kept = c.kept; held_here = c.here; version = c.version_is; complete = c.complete; owed = λ none. some (set.empty_of_len want none) }) tt

  to_it_keeps : (mode : Mode) (m : MoteState) (image version page : ℕ) (want : Numbers) → PageInRange (known_images m.wide) image version page → want ≢ set.empty → ModeAgrees table s m.mode → ModeAgrees table s mode
      → Keeps P table (to_it mode m s now (page_request image version page want))
  to_it_keeps (Maintain timer) m image version page want range some own a =
      cond_both (can_serve s image version page) _ _ (Keeps P table)
      (λ can. begins_serving m image version page want _ range some (serves_complete s image version page can))
      (λ _. rests P table m s 0 None _ here own tt)
  to_it_keeps (Transmit t) m image version page want range some own a =
      cond_both (is_served t image version page) _ _ (Keeps P table)
      (λ _. rests P table (record m { mode = Transmit (record t { owed = after_merge t.owed want }) }) s 0 None _ here
      (record { not_golden = a.not_golden; kept = a.kept; held_here = a.held_here; version = a.version; complete = a.complete; owed = union_some t.owed.left want a.owed }) tt)
      (λ _. rests P table m s 0 None _ here own tt)
  to_it_keeps (Receive r) m image version page want range some own a = rests P table m s 0 None _ here own tt

  pub request_keeps : (m : MoteState) (to image version page : ℕ) (want : Numbers) → PageInRange (known_images m.wide) image version page → want ≢ set.empty → ModeAgrees table s m.mode → Keeps P table (on_request m s now to (page_request image version page want))
  request_keeps m to image version page want range some own =
      cond_both (to == m.id) _ _ (Keeps P table) (λ _. to_it_keeps m.mode m image version page want range some own own)
      (λ _. cond_both (concerns s image version page) _ _ (Keeps P table)
      (λ _. rests P table (record m { noted = with_request m.noted now image }) s 0 None _ here own tt)
      (λ _. rests P table m s 0 None _ here own tt))
