-- What the command that runs a base mote did, from the contract of its call.
use Rattle.std.proofs.Common.{◌≡◌, ◌≢◌, ◌<◌, ℕ, List, [], ◌∷◌, length, map, get_or, set, codes, Option, Some, Result, Ok, Err, refl, sym, ◌∙◌, arith}
use Rattle.dg_base.specs.declared.answers.Status.{Status}
use Rattle.dg_base.specs.declared.answers.Status.TheVariants as statuses
use Rattle.dg_nor.specs.Device.{Device}
use Rattle.dg_volume.specs.Store.{Store}
use Rattle.dg_volume.specs.Stands.{IsNoVolume}
use Rattle.dg_outside.specs.Outside.{OutputState, Outside}
use Rattle.dg_end.specs.Texts.{line}
use Rattle.dg_end.specs.Lines.{outcome_status, finish_line}
use Rattle.dg_end.specs.Writes.{WritesLast}
use Rattle.dg_end.specs.declared.ends.End.{End}
use Rattle.dg_end.specs.declared.ends.End.TheVariants as ends
use Rattle.dg_end.proofs.AnswerLemmas.{written_status}
use Rattle.dg_serial_base.specs.BaseEvents.{Base}
use Rattle.dg_serial_base.specs.Based.{BaseEndsBy, RefusedBy, BaseLine, Based, Refused, BaseCauses}
use Rattle.dg_serial_base.specs.Done.{BasedOn}
use Rattle.dg_cli.specs.Words.{TextDone}
use Rattle.dg_cli.specs.Basing.{BasedOver}

-- ---- the first of the boards

pub over_none : {N : Type 0} (f : N → Device) (items : List N) (base : Base) (status : Status) (a b : Outside) → length items ≡ 0 → TextDone (line (codes "noboard 1 0")) statuses.NoBoard status a b → BasedOver base status a b (map f items) (map f items)
over_none f [] base status a b none h = h
over_none f (x ∷ xs) base status a b none h = absurd (omega (arith, none))

pub over_first : {N : Type 0} (f : N → Device) (items : List N) (x y : N) (base : Base) (status : Status) (a b : Outside) → 0 < length items
    → BasedOn base status (f (get_or items 0 x)) (f y) a b → BasedOver base status a b (map f items) (map f (set items 0 y))
over_first f [] x y base status a b some h = absurd (omega (arith, some))
over_first f (z ∷ zs) x y base status a b some h = (h, refl)

-- ---- whatever the boards are

abbrev line_over : (outcome : Result (Unit {0}) End) (base : Base) (s : Store) (old new : Device) (x y : Outside) (c d e f : List Device)
    → BaseLine outcome base s old new (record x { boards = c }) (record y { boards = d }) → BaseLine outcome base s old new (record x { boards = e }) (record y { boards = f })
line_over outcome base s old new x y c d e f h = record {
  input = h.input;
  taken = h.taken;
  few = h.few;
  text = h.text;
  put = h.put;
  by = h.by;
  whole = h.whole;
}

abbrev based_over : (status : Status) (base : Base) (s : Store) (old new : Device) (x y : Outside) (c d e f : List Device)
    → Based status base s old new (record x { boards = c }) (record y { boards = d }) → Based status base s old new (record x { boards = e }) (record y { boards = f })
based_over status base s old new x y c d e f h = record {
  outcome = h.outcome;
  between = h.between;
  line = line_over h.outcome base s old new x (record y { output = h.between }) c d e f h.line;
  told = h.told;
}

refused_over : (status : Status) (old new : Device) (x y : Outside) (c d e f : List Device)
    → Refused status old new (record x { boards = c }) (record y { boards = d }) → Refused status old new (record x { boards = e }) (record y { boards = f })
refused_over status old new x y c d e f h = record { unread = h.unread; outcome = h.outcome; by = h.by; told = h.told; room = h.room }

causes_over : (status : Status) (old new : Device) (x y : Outside) (c d e f : List Device)
    → BaseCauses status old new (record x { boards = c }) (record y { boards = d }) → BaseCauses status old new (record x { boards = e }) (record y { boards = f })
causes_over status old new x y c d e f h = record {
  reads = h.reads;
  writes = h.writes;
  read_fault = h.read_fault;
  unread = h.unread;
  write_fault = h.write_fault;
  written = h.written;
  flash_fault = h.flash_fault;
  calm = h.calm;
}

pub based_on_over : (base : Base) (status : Status) (old new : Device) (x y : Outside) (c d e f : List Device)
    → BasedOn base status old new (record x { boards = c }) (record y { boards = d }) → BasedOn base status old new (record x { boards = e }) (record y { boards = f })
based_on_over base status old new x y c d e f h = record {
  based = λ s stands. based_over status base s old new x y c d e f (h.based s stands);
  refused = λ none. refused_over status old new x y c d e f (h.refused none);
  causes = causes_over status old new x y c d e f h.causes;
  agrees = λ s table z. h.agrees s table (based_over status base s old new x y e f c d z);
  consistent = λ s golden z. h.consistent s golden (based_over status base s old new x y e f c d z);
}

-- ---- it never ends by a fault of the link

is_link : (status wanted : Status) (line : Option (List ℕ)) (a b : OutputState) → status ≡ statuses.LinkFault → WritesLast status wanted line a b → statuses.LinkFault ≡ wanted
is_link status wanted line a b is h =
    sym is ∙ written_status status wanted line a b h (λ w. let x : statuses.LinkFault ≡ statuses.WriteFault = sym is ∙ w in cc) (λ m. let x : statuses.LinkFault ≡ statuses.Memory = sym is ∙ m in cc)

no_link_by : (r : Result (Unit {0}) End) (base : Base) (s : Store) (input text : List ℕ) (old new : Device) → BaseEndsBy r base s input text old new → statuses.LinkFault ≢ outcome_status r
no_link_by (Ok u) base s input text old new h is = cc
no_link_by (Err ends.LinkFault) base s input text old new h is = h.1
no_link_by (Err end) base s input text old new h is = cc

no_link_refused : (r : Result (Unit {0}) End) (old new : Device) → RefusedBy r old new → statuses.LinkFault ≢ outcome_status r
no_link_refused (Err ends.NotAVolume) old new h is = cc
no_link_refused (Err ends.FlashFault) old new h is = cc
no_link_refused (Err end) old new h is = absurd h
no_link_refused (Ok u) old new h is = absurd h

is_none : (status : Status) (base : Base) (old new : Device) (a b : Outside) → status ≡ statuses.LinkFault → BasedOn base status old new a b → IsNoVolume old.image
is_none status base old new a b is h s stands =
    let x = h.based s stands in
    no_link_by x.outcome base s x.line.input x.line.text old new x.line.by (is_link status (outcome_status x.outcome) (finish_line x.outcome) x.between b.output is x.told)

pub no_link_of_base : (status : Status) (base : Base) (old new : Device) (a b : Outside) → BasedOn base status old new a b → status ≢ statuses.LinkFault
no_link_of_base status base old new a b h is =
    let r = h.refused (is_none status base old new a b is h) in
    no_link_refused r.outcome old new r.by (is_link status (outcome_status r.outcome) (finish_line r.outcome) a.output b.output is r.told)

pub no_link_told : (status : Status) (text : List ℕ) (a b : OutputState) → WritesLast status statuses.NoBoard (Some text) a b → status ≢ statuses.LinkFault
no_link_told status text a b h is = let x : statuses.LinkFault ≡ statuses.NoBoard = is_link status statuses.NoBoard (Some text) a b is h in cc
