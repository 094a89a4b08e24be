-- Which page a mote that hears an advert asks for, and what it then keeps.
use Rattle.std.proofs.Common.{◌≡◌, ◌≢◌, ◌⊎◌, ℕ, ◌<◌, ◌≤◌, Bool, true, false, ◌&&◌, cond, eqb, leb, ltb, length, Option, Some, None, refl, sym, ap, subst, ◌∙◌, inl, inr, arith}
use Rattle.std.proofs.lemmas.Bool.{eq-eqb, ne_eqb, eqb-true, leb-true, ltb-true, and_parts, or_cases, both_ways}
use Rattle.std.proofs.lemmas.List.{get_or-set_same, get_or-set_other, length-set}
use Rattle.dg_control.specs.declared.snapshot.Order.{Order}
use Rattle.dg_slot.specs.Kept.{Held, held_begun}
use Rattle.dg_volume.specs.Sizes.{images}
use Rattle.dg_volume.specs.Store.{Store, held}
use Rattle.dg_volume.specs.Changes.{ordered, is_version}
use Rattle.dg_volume.specs.Ends.{taken}
use Rattle.dg_frame.specs.Sizes.{known_images}
use Rattle.dg_frame.specs.declared.Entry.{Entry}
use Rattle.dg_mote.specs.Summary.{entry_for, entry_by, entries_of, advertiser_ahead, ahead_in}
use Rattle.dg_mote.specs.Adverts.{outline}
use Rattle.dg_mote.specs.Completing.{KeepsNext}
use Rattle.dg_mote.proofs.KeepLemmas.{entry_is, length_entries}
use Rattle.dg_mote.proofs.AdvertLemmas.{is_ahead}
use Rattle.dg_mote.proofs.WideLemmas.{known_kept}

-- ---- which image it is

-- the advertiser keeps it, and is ahead
pub record Found (wide : Bool) (s t : Store) (i : ℕ) : Type 0 where
  pub ahead : Held
  pub kept : held s i ≡ Some ahead
  pub from : 1 ≤ i
  pub to : i < images
  pub entry : entry_for (entries_of wide s) i ≡ entry_by (Some ahead)
  pub is_ahead : advertiser_ahead (entry_by (Some ahead)) (held t i) ≡ true

kept_of : (o : Option Held) (p : Option Held) → advertiser_ahead (entry_by o) p ≡ true → (h : Held) × (o ≡ Some h)
kept_of None None e = absurd (both_ways false refl e)
kept_of None (Some g) e = absurd (both_ways false refl e)
kept_of (Some h) p e = (h, refl)

pub found : (wide : Bool) (s t : Store) (i : ℕ) → ahead_in (entries_of wide s) t ≡ Some i → Found wide s t i
found wide s t i e =
    let a = is_ahead (entries_of wide s) t i e in
    let known : i ≤ known_images wide = omega (arith, a.high, length_entries wide s) in
    let same = entry_is wide s i a.low known in
    let e2 : advertiser_ahead (entry_by (held s i)) (held t i) ≡ true = ap (λ x. advertiser_ahead x (held t i)) (sym same) ∙ a.ahead in
    let h = kept_of (held s i) (held t i) e2 in
    record {
      ahead = h.0;
      kept = h.1;
      from = a.low;
      to = omega (arith, known, known_kept wide);
      entry = same ∙ ap entry_by h.1;
      is_ahead = ap (λ o. advertiser_ahead (entry_by o) (held t i)) (sym h.1) ∙ e2;
    }

-- ---- what is kept once it asks

abbrev begun_for : ℕ → Held → Held
begun_for i ahead = held_begun (outline i (entry_by (Some ahead)))

-- the slot is taken unless the version is kept
abbrev pub asked_store : Store → (i : ℕ) → Entry → Store
asked_store s i e = cond (is_version (held s i) e.version) s (taken s (outline i e))

pub record IsNext (s t : Store) (i : ℕ) (ahead : Held) : Type 0 where
  pub kept : Held
  pub held_now : held t i ≡ Some kept
  pub next : KeepsNext (held s i) ahead kept
  pub version : kept.version ≡ ahead.version
  pub pages : kept.pages ≡ ahead.pages
  pub crc : kept.crc ≡ ahead.crc
  pub less : length kept.complete < length ahead.complete
  pub others : (j : ℕ) → j ≢ i → held t j ≡ held s j
  pub count : length t.kept ≡ length s.kept
  pub app : t.app ≡ s.app
  pub gesture : t.gesture ≡ s.gesture

-- the two ways to be ahead of what is kept
abbrev IsNewer : Held → Held → Type 0
IsNewer h ahead = h.version < ahead.version

pub record HasMore (h ahead : Held) : Type 0 where
  pub version : ahead.version ≡ h.version
  pub pages : ahead.pages ≡ h.pages
  pub crc : ahead.crc ≡ h.crc
  pub more : length h.complete < length ahead.complete

ahead_parts : (h ahead : Held) → advertiser_ahead (entry_by (Some ahead)) (Some h) ≡ true → (1 ≤ length ahead.complete) × (IsNewer h ahead ⊎ HasMore h ahead)
ahead_parts h ahead e =
    let parts = and_parts (leb 1 (length ahead.complete)) _ e in (
      leb-true 1 (length ahead.complete) parts.0,
      elim (or_cases (ltb h.version ahead.version) _ parts.1) [
        | inl newer ↦ inl (ltb-true h.version ahead.version newer)
        | inr same ↦
            let a = and_parts ((eqb ahead.version h.version && eqb ahead.pages h.pages) && eqb ahead.crc h.crc) (ltb (length h.complete) (length ahead.complete)) same in
            let b = and_parts (eqb ahead.version h.version && eqb ahead.pages h.pages) (eqb ahead.crc h.crc) a.0 in
            let c = and_parts (eqb ahead.version h.version) (eqb ahead.pages h.pages) b.0 in
            inr (record { version = eqb-true ahead.version h.version c.0; pages = eqb-true ahead.pages h.pages c.1; crc = eqb-true ahead.crc h.crc b.1; more = ltb-true (length h.complete) (length ahead.complete) a.1 })
      ],
    )

-- a slot is taken for it
taken_next : (s : Store) (i : ℕ) (ahead : Held) → i < length s.kept → 1 ≤ length ahead.complete → KeepsNext (held s i) ahead (begun_for i ahead) → IsNext s (taken s (outline i (entry_by (Some ahead)))) i ahead
taken_next s i ahead there some next =
    record {
      kept = begun_for i ahead;
      held_now = get_or-set_same s.kept i (Some (begun_for i ahead)) None there;
      next = next;
      version = refl;
      pages = refl;
      crc = refl;
      less = omega (arith, some);
      others = λ j other. get_or-set_other s.kept i j (Some (begun_for i ahead)) None other;
      count = length-set s.kept i (Some (begun_for i ahead));
      app = refl;
      gesture = refl;
    }

pub next_by : (o : Option Held) (s : Store) (i : ℕ) (ahead : Held) → held s i ≡ o → i < length s.kept → advertiser_ahead (entry_by (Some ahead)) o ≡ true
    → IsNext s (cond (is_version o ahead.version) s (taken s (outline i (entry_by (Some ahead))))) i ahead
next_by None s i ahead is there e =
    taken_next s i ahead there (leb-true 1 (length ahead.complete) e) (subst (λ o. KeepsNext o ahead (begun_for i ahead)) (sym is) (record { version = refl; pages = refl; crc = refl; complete = refl }))
next_by (Some h) s i ahead is there e =
    let parts = ahead_parts h ahead e in
    let t = taken s (outline i (entry_by (Some ahead))) in
    elim parts.1 [
      | inl newer ↦
          subst (λ b. IsNext s (cond b s t) i ahead) (sym (ne_eqb h.version ahead.version (λ q. omega (arith, newer, q))))
          (taken_next s i ahead there parts.0 (subst (λ o. KeepsNext o ahead (begun_for i ahead)) (sym is) (inr (newer, record { version = refl; pages = refl; crc = refl; complete = refl }))))
      | inr same ↦
          subst (λ b. IsNext s (cond b s t) i ahead) (sym (eq-eqb h.version ahead.version (sym same.version)))
          (record {
            kept = h;
            held_now = is;
            next = subst (λ o. KeepsNext o ahead h) (sym is) (inl (sym same.version, refl));
            version = sym same.version;
            pages = sym same.pages;
            crc = sym same.crc;
            less = same.more;
            others = λ j other. refl;
            count = refl;
            app = refl;
            gesture = refl;
          })
    ]

-- ---- a better order is kept first

abbrev pub can_keep_better : Store → Order → Bool
can_keep_better s o = ltb s.order.number o.number && leb 1 s.room

abbrev pub kept_better : Store → Order → Store
kept_better s o = cond (can_keep_better s o) (ordered s o) s

-- an order changes nothing of this
pub record SameBut (s t : Store) : Type 0 where
  pub kept : t.kept ≡ s.kept
  pub app : t.app ≡ s.app
  pub gesture : t.gesture ≡ s.gesture

pub same_kept_better : (b : Bool) (s : Store) (o : Order) → SameBut s (cond b (ordered s o) s)
same_kept_better true s o = record { kept = refl; app = refl; gesture = refl }
same_kept_better false s o = record { kept = refl; app = refl; gesture = refl }
