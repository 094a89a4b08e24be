-- The last lines, read from boards one after the other.
use Rattle.std.proofs.Common.{◌≡◌, ℕ, ◌+◌, ◌-◌, ◌<◌, ◌≤◌, inl, inr, false, List, [], ◌∷◌, ◌++◌, length, map, get_or, append-nil, append_assoc, refl, ap, sym, ◌∙◌, subst, arith}
use Rattle.std.specs.Prelude.{Option, Some, None, Result, Err, slice_get, slice_index_or, option_to_list}
use Rattle.std.specs.List.{flat_map, filter_map, cons_option, range_with_len}
use Rattle.std.proofs.lemmas.Bool.{cases_eq}
use Rattle.std.proofs.lemmas.List.{length-map}
use Rattle.std.proofs.lemmas.List.Concat.{flat_map-append}
use Rattle.std.proofs.lemmas.List.Elements.{filter_map-append}
use Rattle.std.proofs.lemmas.Option.{slice_get-get_or, get_or_from_slice_get}
use Rattle.dg_nor.specs.Device.{Device, Endures, MadeMore, WorkedOrStopped}
use Rattle.dg_nor.specs.Fuse.{beneath_of}
use Rattle.dg_nor.specs.Reads.{ReadStopped}
use Rattle.dg_nor.proofs.DeviceLemmas.{Endures-same, MadeMore-none}
use Rattle.dg_control.specs.Store.{IsOrderlyChip}
use Rattle.dg_slot.specs.Kept.{Held}
use Rattle.dg_volume.specs.Sizes.{images}
use Rattle.dg_volume.specs.Store.{Store, held}
use Rattle.dg_volume.specs.Stands.{Stands, IsVolume}
use Rattle.dg_volume.specs.Told.{told}
use Rattle.dg_rules.specs.World.{World as RuleWorld, Running, Site, site}
use Rattle.dg_rules.specs.Changes.{mote_line, kept_line, site_lines}
use Rattle.dg_base.specs.declared.events.ImageVersion.{ImageVersion}
use Rattle.dg_script.specs.declared.report.Report.{Report}
use Rattle.dg_script.specs.declared.report.Report.TheVariants.{MoteOn}
use Rattle.dg_world.specs.Applied.{SameBoards, ReadFlash}
use Rattle.dg_world.specs.inner.Finished.{mote_report, kept_report, kept_reports}
use Rattle.dg_world.specs.Formatted.{FirstBoards}
use Rattle.dg_node.specs.Reports.{IsReportOf}
use Rattle.dg_world.specs.Worlds.{MoteStands, SiteStands, IsWorld}
use Rattle.dg_world.specs.declared.finish.BoardStopped.{BoardStopped}
use Rattle.dg_node.specs.declared.report.ChipReport.{ChipReport}
use Rattle.dg_node.specs.declared.node.Node.{Node}
use Rattle.dg_world.specs.declared.world.World.{World}
use Rattle.dg_world.proofs.BoardLemmas.{Used, same_some}
use Rattle.dg_world.proofs.CountLemmas.{worked_halts}
use Rattle.dg_world.proofs.FormatLemmas.{same_err, first_more, unused, is_now, differs_from_kept}
use Rattle.dg_world.proofs.ChipReportLemmas.{range_more, same_over}

-- ---- the lines of one mote

mote_is : (m : ℕ) (c : List ℕ) (v : Option Node) (s : Store) (r : Option Running) → MoteStands c v s r → mote_report m v ≡ mote_line m r
mote_is m c None s None stands = refl
mote_is m c (Some v) s (Some r) stands = ap (λ (k : ImageVersion). MoteOn m k.image k.version) stands.0
mote_is m c None s (Some r) stands = absurd stands
mote_is m c (Some v) s None stands = absurd stands

kept_is : (m i : ℕ) (h : Option Held) → kept_report m i (told h) ≡ kept_line m i h
kept_is m i None = refl
kept_is m i (Some h) = refl

single : {A : Type 0} (o : Option A) → cons_option o [] ≡ option_to_list o
single None = refl
single (Some x) = refl

-- one more image
pub keeps_more : (m : ℕ) (x : ChipReport) (n : ℕ) → kept_reports m x (n + 1) ≡ kept_reports m x n ++ option_to_list (kept_report m (1 + n) (slice_index_or x.kept (1 + n) None))
keeps_more m x n =
    let f : ℕ → Option Report = λ i. kept_report m i (slice_index_or x.kept i None) in
    ap (filter_map f) (range_more 1 n) ∙ filter_map-append f (range_with_len 1 n) ((1 + n) ∷ [])
    ∙ ap (λ (xs : List Report). filter_map f (range_with_len 1 n) ++ xs) (single (f (1 + n)))

-- the same, where the image's number is given
pub keeps_with : (m : ℕ) (x : ChipReport) (i : ℕ) → 1 ≤ i → kept_reports m x ((i + 1) - 1) ≡ kept_reports m x (i - 1) ++ option_to_list (kept_report m i (slice_index_or x.kept i None))
keeps_with m x i some =
    let e : (i + 1) - 1 ≡ (i - 1) + 1 = omega (arith, some) in
    let g : 1 + (i - 1) ≡ i = omega (arith, some) in
    ap (kept_reports m x) e ∙ keeps_more m x (i - 1)
    ∙ ap (λ (k : ℕ). kept_reports m x (i - 1) ++ option_to_list (kept_report m k (slice_index_or x.kept k None))) g

pub site_told : (m : ℕ) (d : Device) (v : Option Node) (x : ChipReport) (s : Site) → SiteStands d v s → IsReportOf x s.store → mote_report m v ∷ kept_reports m x (images - 1) ≡ site_lines m s
site_told m d v x s stands is_report =
    let f : ℕ → Option Report = λ i. kept_report m i (slice_index_or x.kept i None) in
    let g : ℕ → Option Report = λ i. kept_line m i (held s.store i) in
    let same : (i : ℕ) → i < images → f i ≡ g i = λ i h. ap (kept_report m i) (is_report.kept i h) ∙ kept_is m i (held s.store i) in
    ap (λ (r : Report). r ∷ kept_reports m x (images - 1)) (mote_is m d.image v s.store s.runs stands.mote)
    ∙ ap (λ (xs : List Report). mote_line m s.runs ∷ xs) (same_over f g 1 (images - 1) same (omega arith))

pub told_behind : {A : Type 0} (start mid end lines all : List A) (x : A) → mid ≡ start ++ x ∷ [] → end ≡ mid ++ lines → x ∷ lines ≡ all → end ≡ start ++ all
told_behind {A} start mid end lines all x e f g = f ∙ ap (λ (l : List A). l ++ lines) e ∙ append_assoc start (x ∷ []) lines ∙ ap (λ (l : List A). start ++ l) g

-- ---- the lines of motes

pub sites_more : (f : ℕ → List Report) (n : ℕ) → flat_map f (range_with_len 0 (n + 1)) ≡ flat_map f (range_with_len 0 n) ++ f n
sites_more f n =
    let e : 0 + n ≡ n = omega arith in
    ap (flat_map f) (range_more 0 n) ∙ flat_map-append f (range_with_len 0 n) ((0 + n) ∷ [])
    ∙ ap (λ (xs : List Report). flat_map f (range_with_len 0 n) ++ xs) (append-nil (f (0 + n)) ∙ ap f e)

-- ---- boards that are read

-- the first n boards were read
pub record ReadTo (n : ℕ) (old new : List Device) : Type 0 where
  pub first : FirstBoards n old new
  pub images : (m : ℕ) (a b : Device) → slice_get old m ≡ Some a → slice_get new m ≡ Some b → b.image ≡ a.image
  pub none_made : (m : ℕ) (a b : Device) → slice_get old m ≡ Some a → slice_get new m ≡ Some b → b.stopped ≡ false → MadeMore 0 a.made b.made

first_none : (ds : List Device) → FirstBoards 0 ds ds
first_none ds = record {
  count = refl;
  others = λ m h. refl;
  counts = λ m a b here there. let e : a ≡ b = same_some a b (sym here ∙ there) in omega (arith, ap (λ (x : Device). x.faults) e);
  endures = λ m a b here there. subst (λ (x : Device). Endures (beneath_of a) (beneath_of x)) (same_some a b (sym here ∙ there)) (Endures-same (beneath_of a));
}

-- none was read yet
pub read_none : (ds : List Device) → ReadTo 0 ds ds
read_none ds = record {
  first = first_none ds;
  images = λ m a b here there. ap (λ (x : Device). x.image) (same_some b a (sym there ∙ here));
  none_made = λ m a b here there awake. subst (λ (x : Device). MadeMore 0 a.made x.made) (same_some a b (sym here ∙ there)) (MadeMore-none a.made);
}

pub read_more : (n : ℕ) (old now new : List Device) (d e : Device) → ReadTo n old now → Used n now new d e → WorkedOrStopped 0 (beneath_of d) (beneath_of e) → e.image ≡ d.image → ReadTo (n + 1) old new
read_more n old now new d e to used kept same =
    record {
      first = first_more n old now new d e to.first used kept.endures;
      images = λ m a b here there. elim (cases_eq m n) [
        | inl at ↦
            let p : d ≡ a = same_some d a (sym (unused n old now new d e to.first used) ∙ ap (slice_get old) (sym at) ∙ here) in
            let q : b ≡ e = same_some b e (sym there ∙ ap (slice_get new) at ∙ is_now n now new d e used) in
            ap (λ (x : Device). x.image) q ∙ same ∙ ap (λ (x : Device). x.image) p
        | inr other ↦ to.images m a b here (sym (differs_from_kept n m now new d e used other) ∙ there)
      ];
      none_made = λ m a b here there awake. elim (cases_eq m n) [
        | inl at ↦
            let p : d ≡ a = same_some d a (sym (unused n old now new d e to.first used) ∙ ap (slice_get old) (sym at) ∙ here) in
            let q : e ≡ b = same_some e b (sym (is_now n now new d e used) ∙ ap (slice_get new) (sym at) ∙ there) in
            subst (λ (x : Device). MadeMore 0 x.made b.made) p (subst (λ (x : Device). MadeMore 0 d.made x.made) q (kept.made (ap (λ (x : Device). x.stopped) q ∙ awake)))
        | inr other ↦ to.none_made m a b here (sym (differs_from_kept n m now new d e used other) ∙ there) awake
      ];
    }

pub same_boards : (n : ℕ) (old new : List Device) → ReadTo n old new → SameBoards old new
same_boards n old new to = record { count = to.first.count; images = to.images; counts = to.first.counts; endures = to.first.endures; none_made = to.none_made }

pub read_flash : (n : ℕ) (old now new : List Device) (d e : Device) → ReadTo n old now → Used n now new d e → ReadStopped d e → ReadFlash n old new
read_flash n old now new d e to used stopped =
    record { before = d; after = e; was = unused n old now new d e to.first used; is = is_now n now new d e used; stopped = stopped.halts.stopped; cause = stopped.halts.cause }

-- what boards that were only read stand for is unchanged
pub still_world : (v : World) (w : RuleWorld) (old new : List Device) → SameBoards old new → IsWorld v old w → IsWorld v new w
still_world v w old new same is =
    record {
      moment = is.moment;
      events = is.events;
      shared = is.shared;
      motes = is.motes;
      few_motes = is.few_motes;
      boards_enough = omega (arith, is.boards_enough, same.count);
      few_events = is.few_events;
      early = is.early;
      timely = is.timely;
      sites = λ m d known here.
          let within : m < length old = omega (arith, known, is.boards_enough) in
          let was = slice_get-get_or old m d within in
          let a : Device = get_or old m d in
          let stood : SiteStands a (slice_index_or v.motes.items m None) (site w m) = is.sites m a known was in
          let image : a.image ≡ d.image = sym (same.images m a d was here) in
          record {
            stands = subst (λ (c : List ℕ). Stands c (site w m).store) image stood.stands;
            mote = subst (λ (c : List ℕ). MoteStands c (slice_index_or v.motes.items m None) (site w m).store (site w m).runs) image stood.mote;
          };
      orderly = λ m d known here is_known.
          let within : m < length old = omega (arith, known, is.boards_enough) in
          let was = slice_get-get_or old m d within in
          let a : Device = get_or old m d in
          let image : a.image ≡ d.image = sym (same.images m a d was here) in
          subst (λ (c : List ℕ). IsOrderlyChip c) image (is.orderly m a known was is_known);
    }

-- the board that is read next is unchanged, and stands for its site
pub next_site : (v : World) (w : RuleWorld) (n : ℕ) (old now : List Device) (d : Device) (runs : Option Node) → IsWorld v old w → ReadTo n old now → slice_get now n ≡ Some d → n < length v.motes.items
    → runs ≡ slice_index_or v.motes.items n None → SiteStands d runs (site w n)
next_site v w n old now d runs is to here within at =
    let known : n < length w.sites = omega (arith, within, is.motes) in
    subst (λ (r : Option Node). SiteStands d r (site w n)) (sym at) (is.sites n d known (sym (to.first.others n (omega arith)) ∙ here))

pub is_volume : (d : Device) (runs : Option Node) (x : Site) → SiteStands d runs x → IsVolume d.image
is_volume d runs x stands = (x.store, stands.stands)

pub flash_of : (board : ℕ) (e : BoardStopped) (old new : List Device) → (let x : Result (Unit {0}) BoardStopped = Err (record { board = board }) in x ≡ Err e) → ReadFlash board old new → ReadFlash e.board old new
flash_of board e old new is stops =
    let same : record { board = board } ≡ e = same_err _ _ is in
    subst (λ (x : BoardStopped). ReadFlash x.board old new) same stops

-- the item at an index, whatever the default past the end
pub read_at : (motes : List (Option Node)) (n : ℕ) (x : Option Node) → n < length motes → x ≡ get_or motes n x → x ≡ slice_index_or motes n None
read_at motes n x within at = at ∙ sym (get_or_from_slice_get motes n (get_or motes n x) None (slice_get-get_or motes n x within))

-- a mote has a board
pub boards_there : {N : Type 0} (f : N → Device) (old now : List N) (v : World) (w : RuleWorld) (n : ℕ) → length now ≡ length old → IsWorld v (map f old) w → n < length v.motes.items → n < length now
boards_there f old now v w n same is within = omega (arith, within, same, is.motes, is.boards_enough, length-map old f)

pub read_endures : (a b : Device) → ReadStopped a b → WorkedOrStopped 0 (beneath_of a) (beneath_of b)
read_endures a b s = worked_halts 0 s.halts
