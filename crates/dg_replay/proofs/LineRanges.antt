-- Lines that stand where they may: the ranges of what is played of them.
use Rattle.std.proofs.Common.{◌≡◌, ℕ, ◌+◌, ◌<◌, Bool, true, false, List, [], ◌∷◌, ◌++◌, replicate, refl, sym, subst, arith, eqb-true}
use Rattle.std.specs.Prelude.{Option, Some, None, IfSome, Result, Ok, Err}
use Rattle.std.specs.List.{AllByRecursion}
use Rattle.dg_base.specs.declared.events.Event.{Event}
use Rattle.dg_base.specs.declared.events.Cut.{Cut as CutOfPower}
use Rattle.dg_script.specs.Fitting.{StandsAt, FitsLine, FitsCut, IsPlayed}
use Rattle.dg_script.specs.Lines.{line_of}
use Rattle.dg_script.specs.Places.{place_after}
use Rattle.dg_script.specs.Script.{script_from, with_line}
use Rattle.dg_script.proofs.SpelledLemmas.{IsSpelled, is_spelled}
use Rattle.dg_script.specs.declared.fault.LineFault.{LineFault}
use Rattle.dg_script.specs.declared.place.Place.{Place}
use Rattle.dg_script.specs.declared.line.Line.{Line}
use Rattle.dg_script.specs.declared.line.Line.TheVariants.{Nothing, Motes, Golden, Boards, Link, Narrow, Image, Cut, Happens as EventLine, Round, Sweeps}
use Rattle.dg_script.specs.Ranges.{EventInRange, CutInRange}
use Rattle.dg_rounds.specs.Rounds.{round, sweep, times, paced, passed}
use Rattle.dg_rules.specs.Premises.{ItemInRange, LinkFits}
use Rattle.dg_script.specs.Items.{Item, Applies, unreported, item_by, place_behind, items_behind}
use Rattle.dg_completion.proofs.GrowLemmas.{all_append, all_replicate, all_times, all_map}
use Rattle.dg_replay.proofs.PlayLemmas.{false_not, second_at}

-- lines stand where they may, are in their ranges, and are played
unfoldable pub LinesFit : Place → List Line → Type 0
LinesFit place [] = Unit {0}
LinesFit place (line ∷ lines) = StandsAt place line × FitsLine place.motes line × IsPlayed line × LinesFit (place_after place line) lines

fits_by : (ends : Bool) (place : Place) (n : ℕ) (text : List ℕ) (texts : List (List ℕ)) (r : Result Line LineFault) → line_of place text ≡ r → ((line : Line) → LinesFit (place_after place line) (script_from ends (place_after place line) (n + 1) texts).lines)
    → LinesFit place (with_line r (λ line. script_from ends (place_after place line) (n + 1) texts) n).lines
unfolding LinesFit
fits_by ends place n text texts (Err fault) e rest = tt
fits_by ends place n text texts (Ok line) e rest = let s = is_spelled place text line e in (s.stands, s.fits, s.played, rest line)

pub script_fits : (ends : Bool) (place : Place) (n : ℕ) (texts : List (List ℕ)) → LinesFit place (script_from ends place n texts).lines
unfolding LinesFit script_from
script_fits ends place n [] = tt
script_fits ends place n (text ∷ texts) = fits_by ends place n text texts (line_of place text) refl (λ line. script_fits ends (place_after place line) (n + 1) texts)

pub front_fits : (place : Place) (xs ys : List Line) → LinesFit place (xs ++ ys) → LinesFit place xs
unfolding LinesFit
front_fits place [] ys h = tt
front_fits place (x ∷ xs) ys h = (h.0, h.1, h.2, front_fits (place_after place x) xs ys h.3)

pub rest_fits : (place : Place) (xs ys : List Line) → LinesFit place (xs ++ ys) → LinesFit (place_behind place xs) ys
unfolding LinesFit place_behind
rest_fits place [] ys h = h
rest_fits place (x ∷ xs) ys h = rest_fits (place_after place x) xs ys h.3

pub first_fits : (place : Place) (line : Line) (lines : List Line) → LinesFit place (line ∷ lines) → IsSpelled place line
unfolding LinesFit
first_fits place line lines h = record { stands = h.0; fits = h.1; played = h.2 }

pub one_fits : (place : Place) (line : Line) → IsSpelled place line → LinesFit place (line ∷ [])
unfolding LinesFit
one_fits place line h = (h.stands, h.fits, h.played, tt)

-- ---- places

-- the boards are formatted
pub record IsBehind (place : Place) : Type 0 where
  pub ready : place.ready ≡ true
  pub some : 0 < place.motes

-- `motes` stands where no line said yet how many there are
pub not_first : {A : Type 0} (place : Place) (n : ℕ) → 0 < place.motes → StandsAt place (Motes n) → A
not_first place n some h = let none : place.motes ≡ 0 = eqb-true place.motes 0 h.fits in absurd (omega (arith, none, some))

pub not_second : {A : Type 0} (place : Place) (name : List ℕ) (used : ℕ) (content : List ℕ) → place.ready ≡ true → StandsAt place (Golden name used content) → A
not_second place name used content ready h = false_not place.ready ready (second_at place h.fits).0

pub not_boards : {A : Type 0} (place : Place) → place.ready ≡ true → StandsAt place Boards → A
not_boards place ready h = false_not place.ready ready (second_at place h.fits).0

-- ---- items in their ranges

-- a cut that waits is in its range
pub cut_in_range : (cut : Option CutOfPower) → IfSome cut FitsCut → IfSome cut CutInRange
cut_in_range None h = tt
cut_in_range (Some cut) h = h.range

pub one_more : {A : Type 0} (P : A → Type 0) (xs : List A) (x : A) → AllByRecursion P xs → P x → AllByRecursion P (xs ++ x ∷ [])
one_more P xs x h k = all_append P xs (x ∷ []) h (k, tt)

-- ---- the events of rounds

-- P holds of all events of a round over a link, in both directions
pub record HoldsOver (P : Event → Type 0) (l : ℕ × ℕ) : Type 0 where
  pub near : P (paced l.0)
  pub far : P (paced l.1)
  pub there : P (passed l.0 l.1)
  pub back : P (passed l.1 l.0)

turned : (P : Event → Type 0) (l : ℕ × ℕ) → HoldsOver P l → HoldsOver P (l.1, l.0)
turned P l h = record { near = h.far; far = h.near; there = h.back; back = h.there }

pub round_all : (P : Event → Type 0) (l : ℕ × ℕ) → HoldsOver P l → AllByRecursion P (round l.0 l.1)
unfolding round
round_all P l h =
    let pages : List Event = times 48 (paced l.0 ∷ passed l.0 l.1 ∷ []) in
    let asks : List Event = passed l.0 l.1 ∷ paced l.1 ∷ passed l.1 l.0 ∷ pages in
    let asked : AllByRecursion P asks = (h.there, (h.far, (h.back, all_times P 48 (paced l.0 ∷ passed l.0 l.1 ∷ []) (h.near, (h.there, tt))))) in
    let told : AllByRecursion P (replicate 3 (paced l.0) ++ asks) = all_append P (replicate 3 (paced l.0)) asks (all_replicate P 3 (paced l.0) h.near) asked in
    let rested : AllByRecursion P (replicate 50 (paced l.1) ++ (replicate 3 (paced l.0) ++ asks)) =
    all_append P (replicate 50 (paced l.1)) (replicate 3 (paced l.0) ++ asks) (all_replicate P 50 (paced l.1) h.far) told in
    all_append P (replicate 50 (paced l.0)) (replicate 50 (paced l.1) ++ (replicate 3 (paced l.0) ++ asks)) (all_replicate P 50 (paced l.0) h.near) rested

pub sweep_all : (P : Event → Type 0) (links : List (ℕ × ℕ)) → AllByRecursion (HoldsOver P) links → AllByRecursion P (sweep links)
unfolding sweep
sweep_all P [] h = tt
sweep_all P (l ∷ links) h =
    all_append P (round l.0 l.1) _ (round_all P l h.0) (all_append P (round l.1 l.0) _ (round_all P (l.1, l.0) (turned P l h.0)) (sweep_all P links h.1))

pub quiet_all : (P : Item → Type 0) (events : List Event) → AllByRecursion (λ e. P (Applies (record { event = e; cut = None }) false)) events → AllByRecursion P (unreported events)
quiet_all P [] h = tt
quiet_all P (e ∷ events) h = (h.0, quiet_all P events h.1)

-- the item of an event that a round gives is in its range
abbrev QuietFits : ℕ → Event → Type 0
QuietFits motes e = ItemInRange motes (Applies (record { event = e; cut = None }) false)

quiet_fits : (motes : ℕ) (l : ℕ × ℕ) → LinkFits motes l → HoldsOver (QuietFits motes) l
quiet_fits motes l h =
    record {
      near = record { event = h.first; cut = tt };
      far = record { event = h.second; cut = tt };
      there = record { event = h; cut = tt };
      back = record { event = record { first = h.second; second = h.first; two = λ same. h.two (sym same) }; cut = tt };
    }

-- ---- lines after golden

-- The boards are formatted, and there are this many motes. A cut that waits and the links are in their ranges.
pub record IsKept (motes : ℕ) (place : Place) : Type 0 where
  pub behind : IsBehind place
  pub count : place.motes ≡ motes
  pub waits : IfSome place.cut FitsCut
  pub links : AllByRecursion (LinkFits motes) place.links

kept_next : (motes : ℕ) (place : Place) (line : Line) → IsKept motes place → IsSpelled place line → IsKept motes (place_after place line)
kept_next motes place Nothing k h = k
kept_next motes place (Motes n) k h = not_first place n k.behind.some h.stands
kept_next motes place (Golden name used content) k h = not_second place name used content k.behind.ready h.stands
kept_next motes place Boards k h = not_boards place k.behind.ready h.stands
kept_next motes place (Link a b) k h =
    record {
      behind = record { ready = k.behind.ready; some = k.behind.some };
      count = k.count;
      waits = k.waits;
      links = one_more (LinkFits motes) place.links (a, b) k.links (subst (λ (n : ℕ). LinkFits n (a, b)) k.count h.fits);
    }
kept_next motes place (Narrow m) k h = record { behind = record { ready = k.behind.ready; some = k.behind.some }; count = k.count; waits = k.waits; links = k.links }
kept_next motes place (Image image version name content) k h = k
kept_next motes place (Cut c) k h = record { behind = record { ready = k.behind.ready; some = k.behind.some }; count = k.count; waits = h.fits; links = k.links }
kept_next motes place (EventLine event) k h = record { behind = record { ready = k.behind.ready; some = k.behind.some }; count = k.count; waits = tt; links = k.links }
kept_next motes place (Round a b) k h = record { behind = record { ready = k.behind.ready; some = k.behind.some }; count = k.count; waits = k.waits; links = k.links }
kept_next motes place (Sweeps n) k h = record { behind = record { ready = k.behind.ready; some = k.behind.some }; count = k.count; waits = k.waits; links = k.links }

pub kept_behind : (motes : ℕ) (place : Place) (lines : List Line) → IsKept motes place → LinesFit place lines → IsKept motes (place_behind place lines)
unfolding LinesFit place_behind
kept_behind motes place [] k h = k
kept_behind motes place (line ∷ lines) k h = kept_behind motes (place_after place line) lines (kept_next motes place line k (first_fits place line lines h)) h.3

pub line_in_range : (motes : ℕ) (place : Place) (line : Line) → IsKept motes place → IsSpelled place line → AllByRecursion (ItemInRange motes) (item_by place line)
line_in_range motes place Nothing k h = tt
line_in_range motes place (Motes n) k h = tt
line_in_range motes place (Golden name used content) k h = tt
line_in_range motes place Boards k h = tt
line_in_range motes place (Link a b) k h = tt
line_in_range motes place (Narrow m) k h = tt
line_in_range motes place (Image image version name content) k h = (h.fits, tt)
line_in_range motes place (Cut c) k h = tt
line_in_range motes place (EventLine event) k h = (record { event = subst (λ (n : ℕ). EventInRange n event) k.count h.fits.0; cut = cut_in_range place.cut k.waits }, tt)
line_in_range motes place (Round a b) k h =
    let link : LinkFits motes (a, b) = subst (λ (n : ℕ). LinkFits n (a, b)) k.count h.fits in
    quiet_all (ItemInRange motes) (round a b) (round_all (QuietFits motes) (a, b) (quiet_fits motes (a, b) link))
line_in_range motes place (Sweeps n) k h =
    quiet_all (ItemInRange motes) (times n (sweep place.links))
    (all_times (QuietFits motes) n (sweep place.links) (sweep_all (QuietFits motes) place.links (all_map (LinkFits motes) (HoldsOver (QuietFits motes)) place.links (quiet_fits motes) k.links)))

pub in_range : (motes : ℕ) (place : Place) (lines : List Line) → IsKept motes place → LinesFit place lines → AllByRecursion (ItemInRange motes) (items_behind place lines)
unfolding LinesFit items_behind
in_range motes place [] k h = tt
in_range motes place (line ∷ lines) k h =
    let first = first_fits place line lines h in
    all_append (ItemInRange motes) (item_by place line) (items_behind (place_after place line) lines)
    (line_in_range motes place line k first) (in_range motes (place_after place line) lines (kept_next motes place line k first) h.3)
