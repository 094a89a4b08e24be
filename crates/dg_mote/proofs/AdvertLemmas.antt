-- Adverts that are heard over agreeing stores.
use Rattle.std.proofs.Common.{◌≡◌, ℕ, zero, suc, ◌+◌, ◌<◌, ◌≤◌, Bool, true, false, ◌&&◌, List, length, Option, Some, None, is_some, find, refl, sym, ap, subst, ◌∙◌, inl, inr, ⊎_elim, arith, replicate}
use Rattle.std.specs.Prelude.{◌==◌, nat_le, nat_lt, slice_index_or}
use Rattle.std.specs.List.{range_with_len}
use Rattle.std.proofs.lemmas.Bool.{cond_both, cases_Bool, cond-true, cond-false, and_parts, or_cases, eqb-true, ltb-true, leb-true}
use Rattle.std.proofs.lemmas.Option.{same_Some}
use Rattle.std.proofs.lemmas.List.{get_or-set_same, length-replicate}
use Rattle.std.specs.Ordering.{nat_cmp}
use Rattle.std.specs.FinSet as set
use Rattle.dg_bits.proofs.SetLaws.{same_numbers, contains-none}
use Rattle.dg_nor.specs.Trail.{Trail, last, last_of, joined, resting}
use Rattle.dg_nor.specs.Through.{Through}
use Rattle.dg_nor.proofs.TrailLemmas.{last-joined, last-resting}
use Rattle.dg_nor.proofs.ThroughLemmas.{Through-joined, Through-resting, Through-last}
use Rattle.dg_control.specs.declared.snapshot.Order.{Order}
use Rattle.dg_object.specs.Object.{Row, Outline, profile}
use Rattle.dg_slot.specs.Layout.{packets}
use Rattle.dg_slot.specs.Kept.{Held, held_begun}
use Rattle.dg_slot.specs.Jobs.{packet, no_packets}
use Rattle.dg_trickle.specs.Timer.{Timer}
use Rattle.dg_trickle.specs.Steps.{after_same, after_other}
use Rattle.dg_volume.specs.Sizes.{images}
use Rattle.dg_volume.specs.Store.{Store, held}
use Rattle.dg_volume.specs.Changes.{is_version}
use Rattle.dg_volume.specs.Trails.{BeginsAt, order_trail, clear_trail, take_trail, done_of}
use Rattle.dg_volume.specs.Ends.{taken}
use Rattle.dg_volume.specs.Table.{row_at}
use Rattle.dg_frame.specs.Ranges.{EntryInRange, TellsVersion}
use Rattle.dg_frame.specs.declared.Entry.{Entry}
use Rattle.dg_mote.specs.Model.{MoteState, Mode, Maintain, Receive, Transmit, came, MoteStep}
use Rattle.dg_mote.specs.Summary.{entry_for, is_own, advertiser_ahead, ahead_in}
use Rattle.dg_mote.specs.Agreement.{ModeAgrees, HonestEntry}
use Rattle.dg_mote.specs.Adverts.{outline, better_trail, ask_trail, asks, asking, noting, by_ahead, turn_behind, advert_heard, on_advert, offer}
use Rattle.dg_mote.specs.Well.{StoreIsWell}
use Rattle.dg_mote.specs.declared.mote.Heard.{Heard}
use Rattle.dg_mote.proofs.RowLemmas.{TableLaws, row_own}
use Rattle.dg_mote.proofs.CameLemmas.{came_has}
use Rattle.dg_mote.proofs.KeepLemmas.{Keeps, rests}
use Rattle.dg_mote.proofs.BeginLemmas.{ahead_begins}

-- ---- the image in which it is ahead

-- the first number of a run that passes is one of the run
find_in_range : (p : ℕ → Bool) (a n i : ℕ) → find p (range_with_len a n) ≡ Some i → (a ≤ i) × (i < a + n) × (p i ≡ true)
find_in_range p a zero i e = cc
find_in_range p a (suc n) i e =
    elim (cases_Bool (p a)) [
      | inl here ↦
          let same : a ≡ i = same_Some a i (sym (cond-true (p a) (Some a) (find p (range_with_len (a + 1) n)) here) ∙ e) in
          (omega (arith, same), omega (arith, same), ap p (sym same) ∙ here)
      | inr later ↦
          let rest = find_in_range p (a + 1) n i (sym (cond-false (p a) (Some a) (find p (range_with_len (a + 1) n)) later) ∙ e) in
          (omega (arith, rest.0), omega (arith, rest.1), rest.2)
    ]

pub record IsAhead (entries : List Entry) (s : Store) (i : ℕ) : Type 0 where
  pub low : 1 ≤ i
  pub high : i ≤ length entries
  pub ahead : advertiser_ahead (entry_for entries i) (held s i) ≡ true

pub is_ahead : (entries : List Entry) (s : Store) (i : ℕ) → ahead_in entries s ≡ Some i → IsAhead entries s i
unfolding ahead_in
is_ahead entries s i e =
    let r = find_in_range (λ j. advertiser_ahead (entry_for entries j) (held s j)) 1 (length entries) i e in
    record { low = r.0; high = omega (arith, r.1); ahead = r.2 }

-- it has a page, and if this version is kept here it has more
pub some_page : (e : Entry) (o : Option Held) → advertiser_ahead e o ≡ true → 1 ≤ e.have
some_page e None is = leb-true 1 e.have is
some_page e (Some h) is = leb-true 1 e.have (and_parts (nat_le 1 e.have) _ is).0

pub more_pages : (e : Entry) (h : Held) → advertiser_ahead e (Some h) ≡ true → h.version ≡ e.version → (e.pages ≡ h.pages) × (length h.complete < e.have)
more_pages e h is same =
    ⊎_elim
    (λ newer. absurd (omega (arith, same, ltb-true h.version e.version newer)))
    (λ more.
    let a = and_parts ((e.version == h.version) && (e.pages == h.pages) && (e.crc == h.crc)) (nat_lt (length h.complete) e.have) more in
    let b = and_parts ((e.version == h.version) && (e.pages == h.pages)) (e.crc == h.crc) a.0 in
    let c = and_parts (e.version == h.version) (e.pages == h.pages) b.0 in
    (eqb-true e.pages h.pages c.1, ltb-true (length h.complete) e.have a.1))
    (or_cases (nat_lt h.version e.version) _ (and_parts (nat_le 1 e.have) _ is).1)

-- ---- an entry of an honest advert that is ahead

pub record NamesRow (table : List Row) (i : ℕ) (e : Entry) : Type 0 where
  pub row : Row
  pub in_table : row_at table i e.version ≡ Some row
  pub is_profile : outline i e ≡ profile row
  pub some : 1 ≤ e.have
  pub within : e.have ≤ e.pages

same_outline : (i : ℕ) (e : Entry) (p : Outline) → i ≡ p.image → e.version ≡ p.version → e.pages ≡ p.pages → e.crc ≡ p.crc → outline i e ≡ p
same_outline i e p a b c d = λ k. record { image = a k; version = b k; pages = c k; crc = d k }

pub names_row : TableLaws → (table : List Row) (i : ℕ) (e : Entry) → EntryInRange e → HonestEntry table i e → 1 ≤ e.have → NamesRow table i e
names_row rows table i e range honest some =
    ⊎_elim
    (λ nothing. absurd (omega (arith, some, ap (λ (x : Entry). x.have) nothing)))
    (λ (named : (row : Row) × (row_at table i e.version ≡ Some row) × (e.pages ≡ (profile row).pages) × (e.crc ≡ (profile row).crc)).
    let ids = rows.image_version table i e.version named.0 named.1 in
    record {
      row = named.0;
      in_table = named.1;
      is_profile = same_outline i e (profile named.0) (sym ids.0) (sym ids.1) named.2 named.3;
      some = some;
      within = ⊎_elim (λ u. absurd (omega (arith, some, ap (λ (x : Entry). x.have) u))) (λ (t : TellsVersion e). t.have) range;
    })
    honest

-- ---- no packets

pub none_in : (q : ℕ) → packet no_packets q ≡ None
unfolding no_packets
none_in q = nothing packets q
  where
    nothing : (n q : ℕ) → slice_index_or (replicate {A = Option (List ℕ)} n None) q None ≡ None
    nothing zero q = refl
    nothing (suc n) zero = refl
    nothing (suc n) (suc q) = nothing n q

pub no_packets-count : length no_packets ≡ packets
unfolding no_packets
no_packets-count = length-replicate {A = Option (List ℕ)} packets None

pub none_came : set.len (came no_packets) ≡ 0
none_came =
    ap set.len (same_numbers (came no_packets) set.empty (λ q. came_has no_packets q ∙ ap (λ o. is_some o && nat_lt q packets) (none_in q) ∙ sym (contains-none q)))
    ∙ set.len-empty nat_cmp

pub no_packet : (q : ℕ) (bytes : List ℕ) → packet no_packets q ≡ Some bytes → ⊥
no_packet q bytes e = let none : packet no_packets q ≡ None = none_in q in cc

-- ---- what lower crates promise

pub record TakeLaws (table : List Row) : Type 0 where
  pub rows : TableLaws
  pub order : (s : Store) (o : Order) → StoreIsWell table s → Through (StoreIsWell table) (order_trail s o)
  pub take : (s : Store) (row : Row) → 1 ≤ row.image → row.image < images → row_at table row.image row.version ≡ Some row → StoreIsWell table s → Through (StoreIsWell table) (take_trail s (profile row))
  pub end : (s : Store) (p : Outline) → last (take_trail s p) ≡ taken s p
  pub order_begins : (s : Store) (o : Order) → BeginsAt s (order_trail s o)
  pub clear_begins : (s : Store) → BeginsAt s (clear_trail s)
  pub take_begins : (s : Store) (p : Outline) → BeginsAt s (take_trail s p)

-- ---- it asks

-- what is kept of the image when it asks for its next page
record AsksNext (table : List Row) (s t : Store) (i : ℕ) (e : Entry) : Type 0 where
  kept : Held
  here : held t i ≡ Some kept
  version : kept.version ≡ e.version
  more : length kept.complete < kept.pages
  way : Through (StoreIsWell table) (ask_trail s i e)

module _ (table : List Row) (laws : TakeLaws table) (now word source : ℕ) where
  -- a slot is taken
  asks_new : (s : Store) (i : ℕ) (e : Entry) → StoreIsWell table s → 1 ≤ i → i < images → NamesRow table i e → is_version (held s i) e.version ≡ false → AsksNext table s (last (ask_trail s i e)) i e
  unfolding ask_trail
  asks_new s i e w low high n other =
      let p = outline i e in
      let t = take_trail s p in
      let u = joined t (resting (last t) 1) in
      let ids = laws.rows.image_version table i e.version n.row n.in_table in
      let own = row_own laws.rows table i e.version n.row n.in_table in
      let way : Through (StoreIsWell table) t =
      subst (λ (o : Outline). Through (StoreIsWell table) (take_trail s o)) (sym n.is_profile) (laws.take s n.row (omega (arith, ids.0, low)) (omega (arith, ids.0, high)) own w) in
      let is : ask_trail s i e ≡ u = cond-false (is_version (held s i) e.version) (resting s 1) u other in
      let ends : last u ≡ taken s p = last-joined t (resting (last t) 1) refl ∙ last-resting (last t) 1 ∙ laws.end s p in
      record {
        kept = held_begun p;
        here = ap (λ (x : Trail Store). held (last x) i) is ∙ ap (λ (x : Store). held x i) ends ∙ get_or-set_same s.kept i (Some (held_begun p)) None (omega (arith, high, w.count));
        version = refl;
        more = omega (arith, n.some, n.within);
        way = subst (λ (x : Trail Store). Through (StoreIsWell table) x) (sym is)
            (Through-joined (StoreIsWell table) t (resting (last t) 1) way (Through-resting (StoreIsWell table) (last t) 1 (Through-last (StoreIsWell table) t way)));
      }

  -- this version is kept
  asks_more : (o : Option Held) (s : Store) (i : ℕ) (e : Entry) → StoreIsWell table s → held s i ≡ o → NamesRow table i e → advertiser_ahead e o ≡ true → is_version o e.version ≡ true → is_version (held s i) e.version ≡ true
      → AsksNext table s (last (ask_trail s i e)) i e
  unfolding ask_trail last_of
  asks_more None s i e w here n ahead same is = cc
  asks_more (Some h) s i e w here n ahead same is =
      let version : h.version ≡ e.version = eqb-true h.version e.version same in
      let more = more_pages e h ahead version in
      let t = take_trail s (outline i e) in
      let trail : ask_trail s i e ≡ resting s 1 = cond-true (is_version (held s i) e.version) (resting s 1) (joined t (resting (last t) 1)) is in
      record {
        kept = h;
        here = ap (λ (x : Trail Store). held (last x) i) trail ∙ here;
        version = version;
        more = omega (arith, more.0, more.1, n.within);
        way = subst (λ (x : Trail Store). Through (StoreIsWell table) x) (sym trail) (Through-resting (StoreIsWell table) s 1 w);
      }

  asks_next : (s : Store) (i : ℕ) (e : Entry) → StoreIsWell table s → 1 ≤ i → i < images → NamesRow table i e → advertiser_ahead e (held s i) ≡ true → AsksNext table s (last (ask_trail s i e)) i e
  asks_next s i e w low high n ahead =
      elim (cases_Bool (is_version (held s i) e.version)) [
        | inl same ↦ asks_more (held s i) s i e w refl n ahead same same
        | inr other ↦ asks_new s i e w low high n other
      ]

  asking_keeps : (m : MoteState) (s : Store) (i : ℕ) (e : Entry) → StoreIsWell table s → 1 ≤ i → i < images → NamesRow table i e → advertiser_ahead e (held s i) ≡ true → Keeps (StoreIsWell table) table (asking m s now word source i e)
  asking_keeps m s i e w low high n ahead =
      let x = asks_next s i e w low high n ahead in
      record {
        way = x.way;
        mode = record {
          not_golden = low;
          row = n.row;
          in_table = n.in_table;
          kept = x.kept;
          held_here = x.here;
          version = x.version;
          next = sym (ap done_of x.here);
          more = omega (arith, x.more, ap done_of x.here);
          count = no_packets-count;
          missing = omega (arith, none_came);
          honest = λ q bytes came. absurd (no_packet q bytes came);
        };
        sent = tt;
      }

  noting_keeps : (own : Bool) (m : MoteState) (timer : Timer) (s : Store) → StoreIsWell table s → Keeps (StoreIsWell table) table (noting m timer s now word own)
  noting_keeps true m timer s w = rests (StoreIsWell table) table (record m { mode = Maintain (after_same timer) }) s 0 None _ w tt tt
  noting_keeps false m timer s w = rests (StoreIsWell table) table (record m { mode = Maintain (after_other timer now word) }) s 0 None _ w tt tt

  module _ (entries : List Entry) (few : length entries < images) (ranges : (i : ℕ) → 1 ≤ i → i ≤ length entries → EntryInRange (entry_for entries i)) (honest : (i : ℕ) → 1 ≤ i → i ≤ length entries → HonestEntry table i (entry_for entries i)) where
    ahead_keeps : (o : Option ℕ) (m : MoteState) (timer : Timer) (s : Store) (own : Bool) → StoreIsWell table s → ahead_in entries s ≡ o → Keeps (StoreIsWell table) table (by_ahead o m s now word (offer source entries) (noting m timer s now word own))
    ahead_keeps None m timer s own w is = noting_keeps own m timer s w
    ahead_keeps (Some i) m timer s own w is =
        let a = is_ahead entries s i is in
        let e = entry_for entries i in
        let n = names_row laws.rows table i e (ranges i a.low a.high) (honest i a.low a.high) (some_page e (held s i) a.ahead) in
        cond_both (asks m s now i e) _ _ (Keeps (StoreIsWell table) table)
        (λ _. asking_keeps m s i e w a.low (omega (arith, a.high, few)) n a.ahead)
        (λ _. noting_keeps own m timer s w)

    better_well : (s : Store) (o : Order) → StoreIsWell table s → Through (StoreIsWell table) (better_trail s o)
    unfolding better_trail
    better_well s o w = cond_both (nat_lt s.order.number o.number && nat_le 1 s.room) _ _ (Through (StoreIsWell table)) (λ _. laws.order s o w) (λ _. Through-resting (StoreIsWell table) s 0 w)

    behind_keeps : (s : Store) (t : Trail Store) (step : MoteStep Heard) → Through (StoreIsWell table) t → BeginsAt (last t) step.trail → Keeps (StoreIsWell table) table step → Keeps (StoreIsWell table) table (turn_behind t step)
    behind_keeps s t step way begins k =
        record {
          way = Through-joined (StoreIsWell table) t step.trail way k.way;
          mode = subst (λ (x : Store). ModeAgrees table x step.mote.mode) (sym (last-joined t step.trail (sym begins.first))) k.mode;
          sent = k.sent;
        }

    pub advert_keeps : (mode : Mode) (m : MoteState) (s : Store) (order : Order) → StoreIsWell table s → ModeAgrees table s m.mode → Keeps (StoreIsWell table) table (on_advert mode m s now word (offer source entries) order)
    unfolding advert_heard
    advert_keeps (Maintain timer) m s order w own =
        let t = better_trail s order in
        let first = better_well s order w in
        let here = Through-last (StoreIsWell table) t first in
        behind_keeps s t _ first
        (ahead_begins laws.order_begins laws.clear_begins laws.take_begins (ahead_in entries (last t)) m timer (last t) now word source entries (is_own entries order m.wide s))
        (ahead_keeps (ahead_in entries (last t)) m timer (last t) (is_own entries order m.wide s) here refl)
    advert_keeps (Receive r) m s order w own = rests (StoreIsWell table) table m s 0 None _ w own tt
    advert_keeps (Transmit t) m s order w own = rests (StoreIsWell table) table m s 0 None _ w own tt
