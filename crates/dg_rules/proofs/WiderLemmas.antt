-- A table with more rows: what agrees with a table, or is honest by it, agrees with the larger one too.
use Rattle.std.proofs.Common.{◌≡◌, ℕ, ◌≤◌, Bool, List, [], ◌∷◌, ◌++◌, Some, Result, Ok, Err, ⊎_elim, inl, inr}
use Rattle.std.specs.List.{AllByRecursion}
use Rattle.std.proofs.lemmas.Option.{IfSome_then}
use Rattle.dg_object.specs.Object.{Row}
use Rattle.dg_volume.specs.Sizes.{golden_version}
use Rattle.dg_volume.specs.Store.{Store, held}
use Rattle.dg_volume.specs.Table.{row_at}
use Rattle.dg_volume.specs.Agreement.{Agrees}
use Rattle.dg_frame.specs.declared.Entry.{Entry}
use Rattle.dg_frame.specs.declared.FrameFault.{FrameFault}
use Rattle.dg_frame.specs.declared.Message.{Message}
use Rattle.dg_frame.specs.declared.Message.TheVariants.{Advert, Request, Packet, Wide}
use Rattle.dg_mote.specs.Model.{MoteState, Mode, Maintain, Receive, Transmit}
use Rattle.dg_mote.specs.Agreement.{ModeAgrees, HonestEntry, HonestMessage}
use Rattle.dg_mote.specs.Well.{StoreIsWell, IsWell}
use Rattle.dg_rules.specs.World.{Site, Sent}
use Rattle.dg_rules.specs.Premises.{SiteIsWell, SentIsWell}

-- every row stays that of its image version
abbrev pub Wider : List Row → List Row → Type 0
Wider table more = (image version : ℕ) (row : Row) → row_at table image version ≡ Some row → row_at more image version ≡ Some row

pub wider_same : (table : List Row) → Wider table table
wider_same table image version row e = e

module _ (table more : List Row) (wider : Wider table more) where
  pub agrees_wider : (s : Store) → Agrees table s → Agrees more s
  agrees_wider s a = record {
    golden = (a.golden.0, wider 0 golden_version a.golden.0 a.golden.1, a.golden.2);
    kept = λ i. IfSome_then (held s i) (a.kept i) (λ h k. record { row = k.row; in_table = wider i h.version k.row k.in_table; pages = k.pages; crc = k.crc; first = k.first });
    app = IfSome_then s.app a.app (λ app h. record { row = h.row; in_table = wider app.image app.version h.row h.in_table; pages = h.pages });
  }

  pub store_wider : (s : Store) → StoreIsWell table s → StoreIsWell more s
  store_wider s w = record { count = w.count; agrees = agrees_wider s w.agrees }

  mode_wider : (s : Store) (mode : Mode) → ModeAgrees table s mode → ModeAgrees more s mode
  mode_wider s (Maintain timer) a = tt
  mode_wider s (Transmit t) a = a
  mode_wider s (Receive r) a = record {
    not_golden = a.not_golden;
    row = a.row;
    in_table = wider r.image r.version a.row a.in_table;
    kept = a.kept;
    held_here = a.held_here;
    version = a.version;
    next = a.next;
    more = a.more;
    count = a.count;
    missing = a.missing;
    honest = a.honest;
  }

  well_wider : (m : MoteState) (s : Store) (now : ℕ) → IsWell table m s now → IsWell more m s now
  well_wider m s now w = record { store = store_wider s w.store; mode = mode_wider s m.mode w.mode; timely = w.timely }

  -- a mote at the present moment, and later over a larger table
  module _ (later : (m : MoteState) (s : Store) (now then : ℕ) → now ≤ then → IsWell table m s now → IsWell table m s then) where
    pub site_wider : (m : ℕ) (wide : Bool) (now then : ℕ) (x : Site) → now ≤ then → SiteIsWell table m wide now x → SiteIsWell more m wide then x
    site_wider m wide now then x low w = record {
      store = store_wider x.store w.store;
      order = w.order;
      runs = IfSome_then x.runs w.runs (λ r k. record { id = k.id; wide_is = k.wide_is; well = well_wider r.mote x.store then (later r.mote x.store now then low k.well); speaks = k.speaks });
    }

  -- ---- frames

  entry_wider : (i : ℕ) (e : Entry) → HonestEntry table i e → HonestEntry more i e
  entry_wider i e h = ⊎_elim (λ none. inl none) (λ row. inr (row.0, wider i e.version row.0 row.1, row.2, row.3)) h

  message_wider : (r : Result Message FrameFault) → HonestMessage table r → HonestMessage more r
  message_wider (Err fault) h = tt
  message_wider (Ok (Request source to image version page want)) h = tt
  message_wider (Ok (Advert source entries order)) h = λ i low high. entry_wider i _ (h i low high)
  message_wider (Ok (Wide source entries order)) h = λ i low high. entry_wider i _ (h i low high)
  message_wider (Ok (Packet source image version page q bytes)) h = (h.0, wider image version h.0 h.1, h.2, h.3)

  pub sent_wider : (f : Sent) → SentIsWell table f → SentIsWell more f
  sent_wider f w = record { message = w.message; spelled = w.spelled; fits = w.fits; source = w.source; honest = message_wider (Ok w.message) w.honest }

-- ---- lists

pub all_map : {A : Type 0} (P Q : A → Type 0) → ((x : A) → P x → Q x) → (xs : List A) → AllByRecursion P xs → AllByRecursion Q xs
all_map P Q f [] all = tt
all_map P Q f (x ∷ xs) all = (f x all.0, all_map P Q f xs all.1)

pub all_pushed : {A : Type 0} (P : A → Type 0) (xs : List A) (x : A) → AllByRecursion P xs → P x → AllByRecursion P (xs ++ x ∷ [])
all_pushed P [] x all p = (p, tt)
all_pushed P (y ∷ ys) x all p = (all.0, all_pushed P ys x all.1 p)
