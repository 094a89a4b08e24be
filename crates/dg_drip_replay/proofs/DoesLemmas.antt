-- What each kind of event does, with what is reported of it.
use Rattle.std.proofs.Common.{◌≡◌, ℕ, ◌+◌, ◌&&◌, ◌<◌, Bool, true, false, cond, List, [], ◌∷◌, ◌++◌, length, set, append-nil, refl, ap, sym, ◌∙◌, subst}
use Rattle.std.specs.Prelude.{Option, Some, None, Ok, Err}
use Rattle.dg_drip.specs.Sizes.{key_count}
use Rattle.dg_drip.specs.Cells.{tells, heard_cell, outcome, set_outcome}
use Rattle.dg_drip.specs.Network.{Network, are_drip_neighbours, frame_numbered, last_said, from_neighbour, heard, told_if, applied}
use Rattle.dg_drip.specs.Nodes.{Node, cell_of, with_cell, set_answer, after_set, node_after_tick, said_by, told_by}
use Rattle.dg_drip.specs.declared.entry.Entry.{Entry}
use Rattle.dg_drip.specs.declared.frame.Said.{Said}
use Rattle.dg_drip.specs.declared.node.Cell.{Cell}
use Rattle.dg_drip.specs.declared.node.SetFault.{SetFault}
use Rattle.dg_drip.specs.declared.node.SetFault.TheVariants as fault
use Rattle.dg_drip.specs.declared.node.DripHeard.{DripHeard}
use Rattle.dg_drip.specs.declared.node.DripHeard.TheVariants as what
use Rattle.dg_drip.specs.declared.events.DripEvent.TheVariants.{Set, Tick, Hear, Last}
use Rattle.dg_drip_replay.specs.Reports.{got, report_of_frame}
use Rattle.dg_drip_replay.specs.inner.Words.{report_of_last}
use Rattle.dg_drip_replay.specs.Standing.{NetworkStands, DripDoes, Hears, node_at}
use Rattle.dg_drip_replay.specs.declared.network.DripNetwork.{DripNetwork}
use Rattle.dg_drip_replay.specs.declared.report.DripReport.{DripReport}
use Rattle.dg_drip_replay.specs.declared.report.DripReport.TheVariants.{Refused, Sent, Got}
use Rattle.dg_drip_replay.specs.declared.report.DripCause.TheVariants as cause
use Rattle.dg_drip_replay.proofs.EventLemmas.{set_told, set_refused, set_stands, tick_stands, tick_tells, tick_silent, tick_told, heard_report, heard_told, heard_stands, later_stands}

-- ---- sets

pub only_last : (f : SetFault) → f ≡ fault.Last
only_last fault.Last = refl

pub set_ok : (d e : DripNetwork) (w : Network) (reported : Bool) (node key value dt word number : ℕ) → NetworkStands d w → node < length d.nodes.items → key < key_count
    → e.moment ≡ d.moment + dt → e.links.items ≡ d.links.items → e.sent.items ≡ d.sent.items → e.nodes.items ≡ set d.nodes.items node (after_set (node_at d.nodes.items node) (d.moment + dt) word key value)
    → Ok number ≡ set_answer (node_at d.nodes.items node) key → DripDoes e w reported (Set node key value dt word) (Some (Got node key (record { number = number; value = value })))
set_ok d e w reported node key value dt word number s h l moment links sent nodes answer = record {
  after = set_stands d e w node key value dt word s h l moment links sent nodes;
  report_is = set_told w reported node key value dt word number (ap set_outcome (sym (s.cells node key h l)) ∙ sym answer);
}

pub set_err : (d e : DripNetwork) (w : Network) (reported : Bool) (node key value dt word : ℕ) → NetworkStands d w → node < length d.nodes.items → key < key_count
    → e.moment ≡ d.moment + dt → e.links.items ≡ d.links.items → e.sent.items ≡ d.sent.items → e.nodes.items ≡ set d.nodes.items node (after_set (node_at d.nodes.items node) (d.moment + dt) word key value)
    → Err fault.Last ≡ set_answer (node_at d.nodes.items node) key → DripDoes e w reported (Set node key value dt word) (Some (Refused node cause.Last))
set_err d e w reported node key value dt word s h l moment links sent nodes answer = record {
  after = set_stands d e w node key value dt word s h l moment links sent nodes;
  report_is = set_refused w reported node key value dt word (ap set_outcome (sym (s.cells node key h l)) ∙ sym answer);
}

-- ---- ticks

none_by : (b : Bool) (s : Said) → (let r : Option Said = None in r) ≡ cond b (Some s) None → b ≡ false
none_by true s e = absurd (let h : (let r : Option Said = None in r) ≡ Some s = e in cc)
none_by false s e = refl

some_by : (b : Bool) (s t : Said) → (let r : Option Said = Some t in r) ≡ cond b (Some s) None → (b ≡ true) × (s ≡ t)
some_by true s t e = (refl, let h : (let r : Option Said = Some t in r) ≡ Some s = e in cc)
some_by false s t e = absurd (let h : (let r : Option Said = Some t in r) ≡ None = e in cc)

and_false : (b c : Bool) → c ≡ false → (b && c) ≡ false
and_false true c e = e
and_false false c e = refl

pub tick_none : (d e : DripNetwork) (w : Network) (reported : Bool) (node key dt word : ℕ) → NetworkStands d w → node < length d.nodes.items → key < key_count
    → e.moment ≡ d.moment + dt → e.links.items ≡ d.links.items → e.sent.items ≡ d.sent.items → e.nodes.items ≡ set d.nodes.items node (node_after_tick (node_at d.nodes.items node) (d.moment + dt) word key)
    → None ≡ told_by (node_at d.nodes.items node) (d.moment + dt) key → DripDoes e w reported (Tick node key dt word) None
tick_none d e w reported node key dt word s h l moment links sent nodes told =
    let n : Node = node_at d.nodes.items node in
    let silent : tells (cell_of n key) (d.moment + dt) ≡ false = none_by (tells (cell_of n key) (d.moment + dt)) (said_by n key) told in
    record {
      after = tick_stands d e w node key dt word s h l moment links nodes
          (sent ∙ sym (ap (λ (b : Bool). d.sent.items ++ told_if b (said_by n key)) silent ∙ append-nil d.sent.items));
      report_is = tick_silent w reported node key dt word (and_false reported (tells (w.cells node key) (w.moment + dt)) (tick_tells d w node key dt false s h l silent));
    }

-- the network after a tick that sends
tells_stands : (d e : DripNetwork) (w : Network) (node key dt word : ℕ) (said : Said) → NetworkStands d w → node < length d.nodes.items → key < key_count
    → e.moment ≡ d.moment + dt → e.links.items ≡ d.links.items → e.sent.items ≡ d.sent.items ++ said ∷ [] → e.nodes.items ≡ set d.nodes.items node (node_after_tick (node_at d.nodes.items node) (d.moment + dt) word key)
    → Some said ≡ told_by (node_at d.nodes.items node) (d.moment + dt) key → NetworkStands e (applied w (Tick node key dt word))
tells_stands d e w node key dt word said s h l moment links sent nodes told =
    let n : Node = node_at d.nodes.items node in
    let parts = some_by (tells (cell_of n key) (d.moment + dt)) (said_by n key) said told in
    tick_stands d e w node key dt word s h l moment links nodes
    (sent ∙ sym (ap (λ (b : Bool). d.sent.items ++ told_if b (said_by n key)) parts.0 ∙ ap (λ (x : Said). d.sent.items ++ x ∷ []) parts.1))

pub tick_quiet : (d e : DripNetwork) (w : Network) (reported : Bool) (node key dt word : ℕ) (said : Said) → NetworkStands d w → node < length d.nodes.items → key < key_count
    → e.moment ≡ d.moment + dt → e.links.items ≡ d.links.items → e.sent.items ≡ d.sent.items ++ said ∷ [] → e.nodes.items ≡ set d.nodes.items node (node_after_tick (node_at d.nodes.items node) (d.moment + dt) word key)
    → Some said ≡ told_by (node_at d.nodes.items node) (d.moment + dt) key → reported ≡ false → DripDoes e w reported (Tick node key dt word) None
tick_quiet d e w reported node key dt word said s h l moment links sent nodes told quiet = record {
  after = tells_stands d e w node key dt word said s h l moment links sent nodes told;
  report_is = tick_silent w reported node key dt word (ap (λ (b : Bool). b && tells (w.cells node key) (w.moment + dt)) quiet);
}

pub tick_reported : (d e : DripNetwork) (w : Network) (reported : Bool) (node key dt word : ℕ) (said : Said) → NetworkStands d w → node < length d.nodes.items → key < key_count
    → e.moment ≡ d.moment + dt → e.links.items ≡ d.links.items → e.sent.items ≡ d.sent.items ++ said ∷ [] → e.nodes.items ≡ set d.nodes.items node (node_after_tick (node_at d.nodes.items node) (d.moment + dt) word key)
    → Some said ≡ told_by (node_at d.nodes.items node) (d.moment + dt) key → reported ≡ true → DripDoes e w reported (Tick node key dt word) (Some (Sent node key said.entry))
tick_reported d e w reported node key dt word said s h l moment links sent nodes told is =
    let n : Node = node_at d.nodes.items node in
    let parts = some_by (tells (cell_of n key) (d.moment + dt)) (said_by n key) said told in
    record {
      after = tells_stands d e w node key dt word said s h l moment links sent nodes told;
      report_is = tick_told w reported node key dt word said.entry is (tick_tells d w node key dt true s h l parts.0)
          (ap (λ (x : Said). x.entry) (sym parts.1) ∙ ap (λ (c : Cell). c.entry) (s.cells node key h l));
    }

-- ---- frames that are heard

pub take_hears : (d e : DripNetwork) (w : Network) (node word : ℕ) (s : Said) (answer : DripHeard) → NetworkStands d w → node < length d.nodes.items → s.key < key_count
    → e.moment ≡ d.moment → e.links.items ≡ d.links.items → e.sent.items ≡ d.sent.items
    → e.nodes.items ≡ set d.nodes.items node (with_cell (node_at d.nodes.items node) s.key (heard_cell (cell_of (node_at d.nodes.items node) s.key) d.moment word s.entry))
    → answer ≡ outcome (cell_of (node_at d.nodes.items node) s.key) s.key s.entry → Hears e w node word s (heard_report node s.key s.entry answer)
take_hears d e w node word s answer t h l moment links sent nodes is = record {
  after = heard_stands d e w node word s t h l moment links sent nodes;
  report_is = heard_told w node word s answer (is ∙ ap (λ (c : Cell). outcome c s.key s.entry) (t.cells node s.key h l));
}

silent_unless_newer : (node key : ℕ) (e : Entry) (a : DripHeard) → ((k : ℕ) → a ≡ what.Newer k → ⊥) → heard_report node key e a ≡ None
silent_unless_newer node key e (what.Refused f) n = refl
silent_unless_newer node key e what.Same n = refl
silent_unless_newer node key e what.Older n = refl
silent_unless_newer node key e (what.Newer k) n = absurd (n k refl)

pub take_silent : (d e : DripNetwork) (w : Network) (node word : ℕ) (s : Said) (answer : DripHeard) → NetworkStands d w → node < length d.nodes.items → s.key < key_count
    → e.moment ≡ d.moment → e.links.items ≡ d.links.items → e.sent.items ≡ d.sent.items
    → e.nodes.items ≡ set d.nodes.items node (with_cell (node_at d.nodes.items node) s.key (heard_cell (cell_of (node_at d.nodes.items node) s.key) d.moment word s.entry))
    → answer ≡ outcome (cell_of (node_at d.nodes.items node) s.key) s.key s.entry → ((k : ℕ) → answer ≡ what.Newer k → ⊥) → Hears e w node word s None
take_silent d e w node word s answer t h l moment links sent nodes is other =
    subst (λ (r : Option DripReport). Hears e w node word s r) (silent_unless_newer node s.key s.entry answer other)
    (take_hears d e w node word s answer t h l moment links sent nodes is)

-- the network in which only the time went on
abbrev pub later : Network → ℕ → Network
later w dt = record w { moment = w.moment + dt }

pub hear_none : (d e : DripNetwork) (w : Network) (reported : Bool) (node dt word frame : ℕ) → NetworkStands d w
    → e.moment ≡ d.moment + dt → e.links.items ≡ d.links.items → e.sent.items ≡ d.sent.items → e.nodes.items ≡ d.nodes.items
    → None ≡ frame_numbered d.sent.items frame → DripDoes e w reported (Hear node dt word frame) (Some (Refused node cause.Frame))
hear_none d e w reported node dt word frame s moment links sent nodes none =
    let is : None ≡ frame_numbered w.sent frame = none ∙ ap (λ (xs : List Said). frame_numbered xs frame) s.sent in
    record {
      after = subst (λ (r : Option Said). NetworkStands e (heard w node (w.moment + dt) word (from_neighbour w.links node r))) is (later_stands d e w dt s moment links sent nodes);
      report_is = ap (λ (r : Option Said). report_of_frame w (applied w (Hear node dt word frame)) node r) is;
    }

pub hear_link : (d e : DripNetwork) (w : Network) (reported : Bool) (node dt word frame : ℕ) (x : Said) → NetworkStands d w
    → e.moment ≡ d.moment + dt → e.links.items ≡ d.links.items → e.sent.items ≡ d.sent.items → e.nodes.items ≡ d.nodes.items
    → Some x ≡ frame_numbered d.sent.items frame → are_drip_neighbours d.links.items x.source node ≡ false → DripDoes e w reported (Hear node dt word frame) (Some (Refused node cause.Link))
hear_link d e w reported node dt word frame x s moment links sent nodes some far =
    let is : Some x ≡ frame_numbered w.sent frame = some ∙ ap (λ (xs : List Said). frame_numbered xs frame) s.sent in
    let off : are_drip_neighbours w.links x.source node ≡ false = ap (λ (ls : List (ℕ × ℕ)). are_drip_neighbours ls x.source node) (sym s.links) ∙ far in
    record {
      after = subst (λ (r : Option Said). NetworkStands e (heard w node (w.moment + dt) word (from_neighbour w.links node r))) is
          (subst (λ (b : Bool). NetworkStands e (heard w node (w.moment + dt) word (cond b (Some x) None))) (sym off) (later_stands d e w dt s moment links sent nodes));
      report_is = sym (ap (λ (b : Bool). let r : Option DripReport = cond b (got w (applied w (Hear node dt word frame)) node x.key) (Some (Refused node cause.Link)) in r) off)
          ∙ ap (λ (r : Option Said). report_of_frame w (applied w (Hear node dt word frame)) node r) is;
    }

pub hear_takes : (d e : DripNetwork) (w : Network) (reported : Bool) (node dt word frame : ℕ) (x : Said) (told : Option DripReport) → NetworkStands d w
    → Some x ≡ frame_numbered d.sent.items frame → are_drip_neighbours d.links.items x.source node ≡ true → Hears e (later w dt) node word x told → DripDoes e w reported (Hear node dt word frame) told
hear_takes d e w reported node dt word frame x told s some near h =
    let is : Some x ≡ frame_numbered w.sent frame = some ∙ ap (λ (xs : List Said). frame_numbered xs frame) s.sent in
    let on : are_drip_neighbours w.links x.source node ≡ true = ap (λ (ls : List (ℕ × ℕ)). are_drip_neighbours ls x.source node) (sym s.links) ∙ near in
    let there : heard w node (w.moment + dt) word (Some x) ≡ applied w (Hear node dt word frame) =
    sym (ap (λ (b : Bool). heard w node (w.moment + dt) word (cond b (Some x) None)) on) ∙ ap (λ (r : Option Said). heard w node (w.moment + dt) word (from_neighbour w.links node r)) is in
    record {
      after = subst (λ (v : Network). NetworkStands e v) there h.after;
      report_is = h.report_is
          ∙ ap (λ (v : Network). got w v node x.key) there
          ∙ sym (ap (λ (b : Bool). let r : Option DripReport = cond b (got w (applied w (Hear node dt word frame)) node x.key) (Some (Refused node cause.Link)) in r) on)
          ∙ ap (λ (r : Option Said). report_of_frame w (applied w (Hear node dt word frame)) node r) is;
    }

pub last_none : (d : DripNetwork) (w : Network) (reported : Bool) (from to key : ℕ) → NetworkStands d w → None ≡ last_said d.sent.items from key → DripDoes d w reported (Last from to key) None
last_none d w reported from to key s none =
    let is : None ≡ last_said w.sent from key = none ∙ ap (λ (xs : List Said). last_said xs from key) s.sent in
    record {
      after = subst (λ (r : Option Said). NetworkStands d (heard w to w.moment 0 r)) is (record { moment = s.moment; links = s.links; sent = s.sent; long = s.long; ids = s.ids; cells = s.cells });
      report_is = ap (λ (r : Option Said). report_of_last w (applied w (Last from to key)) to r) is;
    }

pub last_takes : (d e : DripNetwork) (w : Network) (reported : Bool) (from to key : ℕ) (x : Said) (told : Option DripReport) → NetworkStands d w → Some x ≡ last_said d.sent.items from key
    → Hears e w to 0 x told → DripDoes e w reported (Last from to key) told
last_takes d e w reported from to key x told s some h =
    let is : Some x ≡ last_said w.sent from key = some ∙ ap (λ (xs : List Said). last_said xs from key) s.sent in
    let there : heard w to w.moment 0 (Some x) ≡ applied w (Last from to key) = ap (λ (r : Option Said). heard w to w.moment 0 r) is in
    record {
      after = subst (λ (v : Network). NetworkStands e v) there h.after;
      report_is = h.report_is ∙ ap (λ (v : Network). got w v to x.key) there ∙ ap (λ (r : Option Said). report_of_last w (applied w (Last from to key)) to r) is;
    }
