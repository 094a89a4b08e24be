-- Parts that are done one after the other.
use Rattle.std.proofs.Common.{◌≡◌, ℕ, ◌<◌, ◌≤◌, List, [], ◌∷◌, ◌++◌, take, map, append-nil, append_assoc, refl, ap, sym, ◌∙◌, subst, ⊎_elim, inl, inr, arith, length-append}
use Rattle.std.specs.Prelude.{slice_get, Option, Some, None, Result, Ok, Err}
use Rattle.std.specs.List.{AllByRecursion, flat_map}
use Rattle.std.proofs.lemmas.List.{map-append}
use Rattle.std.proofs.lemmas.Bool.{cases_lt}
use Rattle.std.proofs.lemmas.Grind.{flat_map-append}
use Rattle.dg_words.specs.Counts.{Rose}
use Rattle.dg_base.specs.Outside.{Puts}
use Rattle.dg_base.proofs.OutsideLemmas.{Puts-join}
use Rattle.dg_base.specs.declared.events.Event.{Event}
use Rattle.dg_link.specs.Inboxes.{Inboxes}
use Rattle.dg_nor.specs.Device.{Device}
use Rattle.dg_volume.specs.Stands.{IsVolume}
use Rattle.dg_script.specs.Spelling.{line_text}
use Rattle.dg_script.specs.declared.line.Line.TheVariants.{Happens as EventLine}
use Rattle.dg_serve.specs.Services.{Part, Moment, PartDone, PartsDone}
use Rattle.dg_serve.specs.inner.Stretches.{course}
use Rattle.dg_serve.specs.Traces.{UnwrittenLast}
use Rattle.dg_serve.specs.inner.Runs.{event_lines}
use Rattle.dg_serve.specs.Endings.{Remains, EndsInNext, LosesFrame, FoundBy, PartlyHanded, StopLeaves}
use Rattle.dg_serve.specs.inner.Stretches.{remains}
use Rattle.dg_serve.specs.Standings.{Standing, StandsReady, IsBelow, IsEventAt, IsPartAt, ServedParts, CountsBy, PartsHalted, PartsGoOn, stretch}
use Rattle.dg_serve.specs.declared.stop.Stop.{Stop}
use Rattle.dg_serve.specs.declared.stop.Stop.TheVariants as stop
use Rattle.dg_serve.proofs.RunLemmas.{all_front, all_back, all_both}
use Rattle.dg_serve.proofs.BoardLemmas.{used_same, used_then, used_more, all_calm, calm_all_then}

-- ---- services

pub serves_then : (motes : ℕ) (s t u : Moment) (ps qs : List Part) (es fs : List Event) → PartsDone motes s ps es t → PartsDone motes t qs fs u → PartsDone motes s (ps ++ qs) (es ++ fs) u
unfolding PartsDone
serves_then motes s t u [] qs es fs first second =
    let P : Moment → List Event → Type 0 = λ m l. PartsDone motes m qs (l ++ fs) u in
    subst (λ l. P s l) (sym first.0) (subst (λ m. P m []) first.1 second)
serves_then motes s t u (p ∷ ps) qs es fs first second = (
  first.0,
  first.1,
  first.2 ++ fs,
  first.3,
  ap (λ l. l ++ fs) first.4 ∙ append_assoc first.1 first.2 fs,
  serves_then motes first.0 t u ps qs first.2 fs first.5 second,
)

pub one_part : (motes : ℕ) (s t : Moment) (part : Part) (es : List Event) → PartDone motes part s es t → PartsDone motes s (part ∷ []) es t
unfolding PartsDone
one_part motes s t part es done = (t, es, [], done, sym (append-nil es), (refl, refl))

pub no_part : (motes : ℕ) (s : Moment) → PartsDone motes s [] [] s
unfolding PartsDone
no_part motes s = (refl, refl)

pub lines_then : (es fs : List Event) → event_lines (es ++ fs) ≡ event_lines es ++ event_lines fs
lines_then es fs = ap (λ ls. flat_map (λ l. line_text l ++ 10 ∷ []) ls) (map-append EventLine es fs) ∙ flat_map-append (λ l. line_text l ++ 10 ∷ []) (map EventLine es) (map EventLine fs)

-- ---- parts that were done

pub went_none : (motes begun : ℕ) (links : List (ℕ × ℕ)) (p : Standing) → StandsReady motes begun p → ServedParts motes begun begun links [] p p
went_none motes begun links p ready = record {
  events = [];
  put = puts_none p.written;
  run = λ first s stands. (s, no_part motes s, stands);
  ready = ready;
  volumes = λ m a low high was. absurd (omega arith);
  below = tt;
  own = λ mote at. tt;
  rises = omega arith;
  boards = used_same begun p.boards;
  calm = all_calm p.boards;
  moved = omega arith;
  port = refl;
  failures = refl;
  faults = refl;
  reached = omega arith;
}
  where
    puts_none : (o : Option (List ℕ)) → Puts o o []
    puts_none None = refl
    puts_none (Some w) = ap Some (sym (append-nil w))

-- the boards of motes that began in either stretch are volumes
pub volumes_then : (begun mid on : ℕ) (xs ys : List Device) → ((m : ℕ) → mid ≤ m → slice_get ys m ≡ slice_get xs m) → ((m : ℕ) (a : Device) → begun ≤ m → m < mid → slice_get xs m ≡ Some a → IsVolume a.image)
    → ((m : ℕ) (a : Device) → mid ≤ m → m < on → slice_get ys m ≡ Some a → IsVolume a.image) → (m : ℕ) (a : Device) → begun ≤ m → m < on → slice_get xs m ≡ Some a → IsVolume a.image
volumes_then begun mid on xs ys same first second m a low high was =
    ⊎_elim (λ less. first m a low less was) (λ more. second m a more high (same m more ∙ was)) (cases_lt m mid)

pub below_more : (mid on : ℕ) (es : List Event) → mid ≤ on → AllByRecursion (IsBelow mid) es → AllByRecursion (IsBelow on) es
below_more mid on [] order h = tt
below_more mid on (e ∷ es) order h = (let k = h.0 in omega (arith, k, order), below_more mid on es order h.1)

pub went_then : (motes begun mid on : ℕ) (links : List (ℕ × ℕ)) (ps qs : List Part) (p q r : Standing) → mid ≤ on → ServedParts motes begun mid links ps p q → ServedParts motes mid on links qs q r → ServedParts motes begun on links (ps ++ qs) p r
went_then motes begun mid on links ps qs p q r order a b = record {
  events = a.events ++ b.events;
  put = subst (λ l. Puts p.written r.written l) (sym (lines_then a.events b.events)) (Puts-join p.written q.written r.written (event_lines a.events) (event_lines b.events) a.put b.put);
  run = λ first s stands.
      let x = a.run first s stands in
      let y = b.run first x.0 x.2 in
      (y.0, serves_then motes s x.0 y.0 ps qs a.events b.events x.1 y.1, y.2);
  ready = b.ready;
  volumes = volumes_then begun mid on p.boards q.boards a.boards.others a.volumes b.volumes;
  below = all_both (IsBelow on) a.events b.events (below_more mid on a.events order a.below) b.below;
  own = λ mote at. all_both (IsEventAt mote) a.events b.events (a.own mote (all_front (IsPartAt mote) ps qs at)) (b.own mote (all_back (IsPartAt mote) ps qs at));
  rises = omega (arith, order, a.rises);
  port = b.port ∙ a.port;
  boards = used_then on p.boards q.boards r.boards (used_more mid on p.boards q.boards order a.boards) b.boards;
  calm = calm_all_then p.boards q.boards r.boards a.calm b.calm;
  moved = let n = length-append ps qs in let first = a.moved in let second = b.moved in omega (arith, n, first, second);
  failures = b.failures ∙ a.failures;
  faults = b.faults ∙ a.faults;
  reached = omega (arith, a.reached, b.reached);
}

pub went_as : (motes begun on : ℕ) (links : List (ℕ × ℕ)) (ps qs : List Part) (p q : Standing) → ps ≡ qs → ServedParts motes begun on links ps p q → ServedParts motes begun on links qs p q
went_as motes begun on links ps qs p q e a = subst (λ l. ServedParts motes begun on links l p q) e a

-- ---- parts of which some were done

next_more : (why : Stop) (s : Moment) (left more : List Part) (old : List Device) (new : Remains) → EndsInNext why s left old new → EndsInNext why s (left ++ more) old new
next_more why s left more old new n = record {
  part = n.part;
  rest = n.rest ++ more;
  is = ap (λ l. l ++ more) n.is;
  bytes = n.bytes;
  fits = n.fits;
  dt = n.dt;
  word = n.word;
  after = n.after;
  reads = n.reads;
  takes = n.takes;
  clock = n.clock;
  ends = n.ends;
}

lost_more : (s : Moment) (left more : List Part) (old : List Device) (new : Remains) → LosesFrame s left old new → LosesFrame s (left ++ more) old new
lost_more s left more old new n = record {
  mote = n.mote;
  rest = n.rest ++ more;
  is = ap (λ l. l ++ more) n.is;
  bytes = n.bytes;
  takes = n.takes;
  clock = n.clock;
  boards = n.boards;
}

pub left_more : (why : Stop) (motes : ℕ) (s : Moment) (done : List Part) (events : List Event) (left more : List Part) (last : Moment) (old : List Device) (new : Remains) → StopLeaves why motes s (course done events left) last old new → StopLeaves why motes s (course done events (left ++ more)) last old new
left_more stop.Memory motes s done events left more last old new (inl h) = inl (lost_more last left more old new h)
left_more stop.Memory motes s done events left more last old new (inr h) = inr (next_more stop.Memory last left more old new h)
left_more stop.Write motes s done events left more last old new h = h
left_more stop.Link motes s done events left more last old new h = h
left_more stop.Flash motes s done events left more last old new h = next_more stop.Flash last left more old new h
left_more stop.NotAVolume motes s done events left more last old new h = (next_more stop.NotAVolume last left more old new h.0, h.1)
left_more stop.NoImage motes s done events left more last old new h = (next_more stop.NoImage last left more old new h.0, h.1)

-- further parts are left
pub halts_more : (why : Stop) (motes begun : ℕ) (links : List (ℕ × ℕ)) (ps more : List Part) (p q : Standing) → PartsHalted why motes begun links ps p q → PartsHalted why motes begun links (ps ++ more) p q
halts_more why motes begun links ps more p q h = record {
  events = h.events;
  done = h.done;
  left = h.left ++ more;
  all = sym (append_assoc h.done h.left more) ∙ ap (λ l. l ++ more) h.all;
  text = h.text;
  put = h.put;
  front = h.front;
  whole = h.whole;
  run = λ first s stands.
      let x = h.run first s stands in
      (x.0, x.1, left_more why motes s h.done h.events h.left more x.0 first (remains q.boards q.inboxes q.clock) x.2);
  on = h.on;
  volumes = h.volumes;
  below = h.below;
  own = h.own;
  rises = h.rises;
  port = h.port;
  boards = h.boards;
  calm = h.calm;
  counts = h.counts;
}

pub halts_as : (why : Stop) (motes begun : ℕ) (links : List (ℕ × ℕ)) (ps qs : List Part) (p q : Standing) → ps ≡ qs → PartsHalted why motes begun links ps p q → PartsHalted why motes begun links qs p q
halts_as why motes begun links ps qs p q e h = subst (λ l. PartsHalted why motes begun links l p q) e h

pub counts_then : (why : Stop) (p q r : Standing) → q.faults ≡ p.faults → q.failures ≡ p.failures → p.reached ≤ q.reached → CountsBy why q r → CountsBy why p r
counts_then why p q r faults failures reached c = record {
  wrote = λ is. subst (λ n. Rose n r.faults) faults (c.wrote is);
  faults = λ is. c.faults is ∙ faults;
  faults_rise = omega (arith, faults, c.faults_rise);
  sent = λ is. subst (λ n. Rose n r.failures) failures (c.sent is);
  failures = λ is. c.failures is ∙ failures;
  failures_rise = omega (arith, failures, c.failures_rise);
  reached = omega (arith, reached, c.reached);
}

-- what the last event found, also where others came before
found_then : (motes : ℕ) (s t u : Moment) (ps qs : List Part) (es fs : List Event) (found : Option Inboxes) → PartsDone motes s ps es t → FoundBy motes t qs fs u found → FoundBy motes s (ps ++ qs) (es ++ fs) u found
found_then motes s t u ps qs es fs found first n = record {
  earlier = ps ++ n.earlier;
  part = n.part;
  parts_are = ap (λ l. ps ++ l) n.parts_are ∙ sym (append_assoc ps n.earlier (n.part ∷ []));
  written = es ++ n.written;
  event = n.event;
  events_are = ap (λ l. es ++ l) n.events_are ∙ sym (append_assoc es n.written (n.event ∷ []));
  before = n.before;
  serves = serves_then motes s t n.before ps n.earlier es n.written first n.serves;
  applied = n.applied;
  takes = n.takes;
}

partly_then : (motes : ℕ) (s t u : Moment) (ps qs : List Part) (es fs : List Event) (after : Option Inboxes) → PartsDone motes s ps es t → PartlyHanded motes t qs fs u after → PartlyHanded motes s (ps ++ qs) (es ++ fs) u after
unfolding found_then
partly_then motes s t u ps qs es fs after first h = record { found = h.found; by = found_then motes s t u ps qs es fs h.found first h.by; first = h.first }

pub stop_then : (why : Stop) (motes : ℕ) (s t u : Moment) (ps qs left : List Part) (es fs : List Event) (old : List Device) (new : Remains) → PartsDone motes s ps es t → StopLeaves why motes t (course qs fs left) u old new → StopLeaves why motes s (course (ps ++ qs) (es ++ fs) left) u old new
stop_then stop.Memory motes s t u ps qs left es fs old new first h = h
stop_then stop.Write motes s t u ps qs left es fs old new first h = (h.0, found_then motes s t u ps qs es fs new.inboxes first h.1, h.2)
stop_then stop.Link motes s t u ps qs left es fs old new first h =
    (h.0, ⊎_elim (λ same. inl same) (λ partly. inr (partly_then motes s t u ps qs es fs new.inboxes first partly)) h.1, h.2)
stop_then stop.Flash motes s t u ps qs left es fs old new first h = h
stop_then stop.NotAVolume motes s t u ps qs left es fs old new first h = h
stop_then stop.NoImage motes s t u ps qs left es fs old new first h = h

-- the lines of all events but the last were written, also where others came before
pub untold_then : (es fs : List Event) (text : List ℕ) → UnwrittenLast [] fs text → UnwrittenLast [] (es ++ fs) (event_lines es ++ text)
untold_then es fs text u =
    let line = take u.n (event_lines (u.event ∷ [])) in
    record {
      written = es ++ u.written;
      event = u.event;
      events_are = ap (λ l. es ++ l) u.events_are ∙ sym (append_assoc es u.written (u.event ∷ []));
      n = u.n;
      text_is = ap (λ l. event_lines es ++ l) u.text_is ∙ sym (append_assoc (event_lines es) (event_lines u.written) line) ∙ ap (λ l. l ++ line) (sym (lines_then es u.written));
    }

-- some parts were done, and then a stop came in others
pub went_halts : (why : Stop) (motes begun mid : ℕ) (links : List (ℕ × ℕ)) (ps qs : List Part) (p q r : Standing) → mid ≤ motes → ServedParts motes begun mid links ps p q → PartsHalted why motes mid links qs q r → PartsHalted why motes begun links (ps ++ qs) p r
went_halts why motes begun mid links ps qs p q r order a h = record {
  events = a.events ++ h.events;
  done = ps ++ h.done;
  left = h.left;
  all = append_assoc ps h.done h.left ∙ ap (λ l. ps ++ l) h.all;
  text = event_lines a.events ++ h.text;
  put = Puts-join p.written q.written r.written (event_lines a.events) h.text a.put h.put;
  front = λ is. untold_then a.events h.events h.text (h.front is);
  whole = λ is. ap (λ l. event_lines a.events ++ l) (h.whole is) ∙ sym (lines_then a.events h.events);
  run = λ first s stands.
      let x = a.run first s stands in
      let y = h.run first x.0 x.2 in (
        y.0,
        serves_then motes s x.0 y.0 ps h.done a.events h.events x.1 y.1,
        stop_then why motes s x.0 y.0 ps h.done h.left a.events h.events first (remains r.boards r.inboxes r.clock) x.1 y.2,
      );
  on = h.on;
  volumes = volumes_then begun mid h.on p.boards q.boards a.boards.others a.volumes h.volumes;
  below = all_both (IsBelow h.on) a.events h.events (below_more mid h.on a.events h.rises a.below) h.below;
  own = λ mote at. all_both (IsEventAt mote) a.events h.events (a.own mote (all_front (IsPartAt mote) ps h.done at)) (h.own mote (all_back (IsPartAt mote) ps h.done at));
  rises = omega (arith, a.rises, h.rises);
  port = h.port ∙ a.port;
  boards = used_then motes p.boards q.boards r.boards (used_more mid motes p.boards q.boards order a.boards) h.boards;
  calm = λ is. calm_all_then p.boards q.boards r.boards a.calm (h.calm is);
  counts = counts_then why p q r a.faults a.failures a.reached h.counts;
}

-- parts, and then others, each done or stopped in
pub goes_then : (x : Result (Unit {0}) Stop) (motes begun mid on : ℕ) (links : List (ℕ × ℕ)) (ps qs : List Part) (p q r : Standing) → mid ≤ on → mid ≤ motes → ServedParts motes begun mid links ps p q → PartsGoOn x motes links (stretch mid on qs) q r → PartsGoOn x motes links (stretch begun on (ps ++ qs)) p r
goes_then (Ok u) motes begun mid on links ps qs p q r order within a b = went_then motes begun mid on links ps qs p q r order a b
goes_then (Err why) motes begun mid on links ps qs p q r order within a b = went_halts why motes begun mid links ps qs p q r within a b
