-- What an event does to a network, and what is reported of it.
use Rattle.std.proofs.Common.{◌≡◌, inl, inr, ℕ, ◌+◌, ◌==◌, ◌&&◌, ◌<◌, nat_lt, Bool, true, false, cond, List, ◌++◌, length, set, refl, ap, sym, ◌∙◌, subst, arith}
use Rattle.std.specs.Prelude.{Option, Some, None, Result, Ok, Err}
use Rattle.std.proofs.lemmas.Bool.{cases_Bool, eq-eqb, ne_eqb, both_ways, or_cases, and_parts, ltb-true}
use Rattle.dg_drip.specs.Sizes.{key_count}
use Rattle.dg_drip.specs.Cells.{is_last, next_entry, are_same_entries, set_outcome, set_cell, ticked_cell, tells, heard_cell, outcome}
use Rattle.dg_trickle.specs.Steps.{after_same, after_other}
use Rattle.dg_drip.specs.Entries.{is_less, greater}
use Rattle.dg_drip.specs.Network.{Network, entry_at, with_cell_at, heard, told_if, applied}
use Rattle.dg_drip.specs.Nodes.{Node, cell_of, with_cell, after_set, node_after_tick, said_by}
use Rattle.dg_drip.specs.declared.entry.Entry.{Entry}
use Rattle.dg_drip.specs.declared.frame.Said.{Said}
use Rattle.dg_drip.specs.declared.node.Cell.{Cell}
use Rattle.dg_drip.specs.declared.node.SetFault.{SetFault}
use Rattle.dg_drip.specs.declared.node.SetFault.TheVariants as fault
use Rattle.dg_drip.specs.declared.node.DripHeard.{DripHeard}
use Rattle.dg_drip.specs.declared.node.DripHeard.TheVariants as what
use Rattle.dg_drip.specs.declared.events.DripEvent.TheVariants.{Set, Tick}
use Rattle.dg_drip.proofs.OrderLemmas.{less_true, less_false, at_most_anti}
use Rattle.dg_drip_replay.specs.Reports.{got, report_of_event}
use Rattle.dg_drip_replay.specs.inner.Words.{got_if_other}
use Rattle.dg_drip_replay.specs.Standing.{NetworkStands, node_at}
use Rattle.dg_drip_replay.specs.declared.network.DripNetwork.{DripNetwork}
use Rattle.dg_drip_replay.specs.declared.report.DripReport.{DripReport}
use Rattle.dg_drip_replay.specs.declared.report.DripReport.TheVariants.{Refused, Sent, Got}
use Rattle.dg_drip_replay.specs.declared.report.DripCause.TheVariants as cause
use Rattle.dg_drip_replay.proofs.NetworkLemmas.{stands_with}

-- ---- tests

here : (a b : ℕ) → (a == a) && (b == b) ≡ true
here a b = ap (λ (x : Bool). x && (b == b)) (eq-eqb a a refl) ∙ eq-eqb b b refl

-- a write is read back
with_here : (cells : ℕ → ℕ → Cell) (node key : ℕ) (c : Cell) → with_cell_at cells node key c node key ≡ c
with_here cells node key c = ap (λ (b : Bool). cond b c (cells node key)) (here node key)

same_refl : (e : Entry) → are_same_entries e e ≡ true
same_refl e = here e.number e.value

less_irrefl : (e : Entry) → is_less e e ≡ true → ⊥
less_irrefl e h =
    elim (or_cases (nat_lt e.number e.number) ((e.number == e.number) && nat_lt e.value e.value) h) [
      | inl p ↦ let l : e.number < e.number = ltb-true e.number e.number p in omega arith
      | inr p ↦ let l : e.value < e.value = ltb-true e.value e.value (and_parts (e.number == e.number) (nat_lt e.value e.value) p).1 in omega arith
    ]

-- of two entries one is less, or they are the same
less_one_way : (a b : Entry) → is_less a b ≡ true → is_less b a ≡ false
less_one_way a b h =
    elim (cases_Bool (is_less b a)) [
      | inl g ↦ absurd (less_irrefl a (subst (λ (e : Entry). is_less a e ≡ true) (sym (at_most_anti a b (less_true a b h) (less_true b a g))) h))
      | inr g ↦ g
    ]

less_or_other : (a b : Entry) → are_same_entries a b ≡ false → is_less a b ≡ false → is_less b a ≡ true
less_or_other a b n h =
    elim (cases_Bool (is_less b a)) [
      | inl g ↦ g
      | inr g ↦ absurd (both_ways (are_same_entries a b) n (subst (λ (e : Entry). are_same_entries a e ≡ true) (at_most_anti a b (less_false b a g) (less_false a b h)) (same_refl a)))
    ]

-- ---- sets

last_or_next : (b : Bool) (n m : ℕ) → (let r : Result ℕ SetFault = cond b (Err fault.Last) (Ok n) in r) ≡ Ok m → (b ≡ false) × (n ≡ m)
last_or_next true n m e = absurd (let h : (let r : Result ℕ SetFault = Err fault.Last in r) ≡ Ok m = e in cc)
last_or_next false n m e = (refl, let h : (let r : Result ℕ SetFault = Ok n in r) ≡ Ok m = e in cc)

is_last_number : (b : Bool) (n : ℕ) → (let r : Result ℕ SetFault = cond b (Err fault.Last) (Ok n) in r) ≡ Err fault.Last → b ≡ true
is_last_number true n e = refl
is_last_number false n e = absurd (let h : (let r : Result ℕ SetFault = Ok n in r) ≡ Err fault.Last = e in cc)

next_is_other : (e : Entry) (value : ℕ) → are_same_entries (next_entry e value) e ≡ false
next_is_other e value = ap (λ (b : Bool). b && (value == e.value)) (ne_eqb (e.number + 1) e.number (λ h. omega arith))

-- what a set leaves, where a number is left
set_entry : (c : Cell) (now word value : ℕ) (b : Bool) → is_last c.entry ≡ b → (set_cell c now word value).entry ≡ cond b c.entry (next_entry c.entry value)
set_entry c now word value true e = ap (λ (b : Bool). (let d : Cell = cond b c (record { entry = next_entry c.entry value; timer = after_other c.timer now word }) in d).entry) e
set_entry c now word value false e = ap (λ (b : Bool). (let d : Cell = cond b c (record { entry = next_entry c.entry value; timer = after_other c.timer now word }) in d).entry) e

pub set_told : (w : Network) (reported : Bool) (node key value dt word number : ℕ) → set_outcome (w.cells node key) ≡ Ok number
    → Some (Got node key (record { number = number; value = value })) ≡ report_of_event w reported (Set node key value dt word)
set_told w reported node key value dt word number e =
    let old : Entry = entry_at w node key in
    let parts = last_or_next (is_last old) (old.number + 1) number e in
    let after : entry_at (applied w (Set node key value dt word)) node key ≡ next_entry old value =
    ap (λ (c : Cell). c.entry) (with_here w.cells node key (set_cell (w.cells node key) (w.moment + dt) word value)) ∙ set_entry (w.cells node key) (w.moment + dt) word value false parts.0 in
    let there : got_if_other node key old (next_entry old value) ≡ Some (Got node key (next_entry old value)) =
    ap (λ (b : Bool). let r : Option DripReport = cond b None (Some (Got node key (next_entry old value))) in r) (next_is_other old value) in
    sym (
    ap (λ (b : Bool). let r : Option DripReport = cond b (Some (Refused node cause.Last)) (got w (applied w (Set node key value dt word)) node key) in r) parts.0
    ∙ ap (got_if_other node key old) after
    ∙ there
    ∙ ap (λ (n : ℕ). let r : Option DripReport = Some (Got node key (record { number = n; value = value })) in r) parts.1
    )

pub set_refused : (w : Network) (reported : Bool) (node key value dt word : ℕ) → set_outcome (w.cells node key) ≡ Err fault.Last
    → Some (Refused node cause.Last) ≡ report_of_event w reported (Set node key value dt word)
set_refused w reported node key value dt word e =
    sym (ap (λ (b : Bool). let r : Option DripReport = cond b (Some (Refused node cause.Last)) (got w (applied w (Set node key value dt word)) node key) in r) (is_last_number (is_last (entry_at w node key)) ((entry_at w node key).number + 1) e))

-- the network after a set
pub set_stands : (d e : DripNetwork) (w : Network) (node key value dt word : ℕ) → NetworkStands d w → node < length d.nodes.items → key < key_count
    → e.moment ≡ d.moment + dt → e.links.items ≡ d.links.items → e.sent.items ≡ d.sent.items → e.nodes.items ≡ set d.nodes.items node (after_set (node_at d.nodes.items node) (d.moment + dt) word key value)
    → NetworkStands e (applied w (Set node key value dt word))
set_stands d e w node key value dt word s h l moment links sent nodes =
    let c : Cell = set_cell (cell_of (node_at d.nodes.items node) key) (d.moment + dt) word value in
    let same : set_cell (w.cells node key) (w.moment + dt) word value ≡ c =
    ap (λ (m : ℕ). set_cell (w.cells node key) (m + dt) word value) (sym s.moment) ∙ ap (λ (x : Cell). set_cell x (d.moment + dt) word value) (sym (s.cells node key h l)) in
    stands_with d e w (applied w (Set node key value dt word)) node key c s h l nodes (ap (with_cell_at w.cells node key) same)
    (moment ∙ ap (λ (m : ℕ). m + dt) s.moment) (links ∙ s.links) (sent ∙ s.sent)

-- ---- ticks

pub tick_stands : (d e : DripNetwork) (w : Network) (node key dt word : ℕ) → NetworkStands d w → node < length d.nodes.items → key < key_count
    → e.moment ≡ d.moment + dt → e.links.items ≡ d.links.items → e.nodes.items ≡ set d.nodes.items node (node_after_tick (node_at d.nodes.items node) (d.moment + dt) word key)
    → e.sent.items ≡ d.sent.items ++ told_if (tells (cell_of (node_at d.nodes.items node) key) (d.moment + dt)) (said_by (node_at d.nodes.items node) key)
    → NetworkStands e (applied w (Tick node key dt word))
tick_stands d e w node key dt word s h l moment links nodes sent =
    let n : Node = node_at d.nodes.items node in
    let c : Cell = ticked_cell (cell_of n key) (d.moment + dt) word in
    let same : ticked_cell (w.cells node key) (w.moment + dt) word ≡ c =
    ap (λ (m : ℕ). ticked_cell (w.cells node key) (m + dt) word) (sym s.moment) ∙ ap (λ (x : Cell). ticked_cell x (d.moment + dt) word) (sym (s.cells node key h l)) in
    let said : said_by n key ≡ record { source = node; key = key; entry = entry_at w node key } =
    ap (λ (i : ℕ). let r : Said = record { source = i; key = key; entry = (cell_of n key).entry } in r) (s.ids node h) ∙ ap (λ (x : Cell). let r : Said = record { source = node; key = key; entry = x.entry } in r) (s.cells node key h l) in
    let told : tells (cell_of n key) (d.moment + dt) ≡ tells (w.cells node key) (w.moment + dt) =
    ap (λ (x : Cell). tells x (d.moment + dt)) (s.cells node key h l) ∙ ap (λ (m : ℕ). tells (w.cells node key) (m + dt)) s.moment in
    stands_with d e w (applied w (Tick node key dt word)) node key c s h l nodes (ap (with_cell_at w.cells node key) same)
    (moment ∙ ap (λ (m : ℕ). m + dt) s.moment) (links ∙ s.links)
    (
    sent
    ∙ ap (λ (xs : List Said). xs ++ told_if (tells (cell_of n key) (d.moment + dt)) (said_by n key)) s.sent
    ∙ ap (λ (b : Bool). w.sent ++ told_if b (said_by n key)) told
    ∙ ap (λ (x : Said). w.sent ++ told_if (tells (w.cells node key) (w.moment + dt)) x) said
    )

-- the timer of the code's node says what that of the network says
pub tick_tells : (d : DripNetwork) (w : Network) (node key dt : ℕ) (b : Bool) → NetworkStands d w → node < length d.nodes.items → key < key_count
    → tells (cell_of (node_at d.nodes.items node) key) (d.moment + dt) ≡ b → tells (w.cells node key) (w.moment + dt) ≡ b
tick_tells d w node key dt b s h l e =
    ap (λ (m : ℕ). tells (w.cells node key) (m + dt)) (sym s.moment) ∙ ap (λ (x : Cell). tells x (d.moment + dt)) (sym (s.cells node key h l)) ∙ e

pub tick_silent : (w : Network) (reported : Bool) (node key dt word : ℕ) → (reported && tells (w.cells node key) (w.moment + dt)) ≡ false → None ≡ report_of_event w reported (Tick node key dt word)
tick_silent w reported node key dt word e = sym (ap (λ (b : Bool). let r : Option DripReport = cond b (Some (Sent node key (entry_at w node key))) None in r) e)

pub tick_told : (w : Network) (reported : Bool) (node key dt word : ℕ) (entry : Entry) → reported ≡ true → tells (w.cells node key) (w.moment + dt) ≡ true → entry ≡ entry_at w node key
    → Some (Sent node key entry) ≡ report_of_event w reported (Tick node key dt word)
tick_told w reported node key dt word entry is tell same =
    ap (λ (e : Entry). let r : Option DripReport = Some (Sent node key e) in r) same
    ∙ sym (ap (λ (b : Bool). let r : Option DripReport = cond b (Some (Sent node key (entry_at w node key))) None in r) (ap (λ (b : Bool). b && tells (w.cells node key) (w.moment + dt)) is ∙ tell))

-- ---- frames that are heard

-- what a node keeps after a frame
heard_entry : (c : Cell) (now word : ℕ) (e : Entry) (b : Bool) → are_same_entries e c.entry ≡ b → (heard_cell c now word e).entry ≡ cond b c.entry (greater c.entry e)
heard_entry c now word e true is =
    ap (λ (b : Bool). (let d : Cell = cond b (record { entry = c.entry; timer = after_same c.timer }) (record { entry = greater c.entry e; timer = after_other c.timer now word }) in d).entry) is
heard_entry c now word e false is =
    ap (λ (b : Bool). (let d : Cell = cond b (record { entry = c.entry; timer = after_same c.timer }) (record { entry = greater c.entry e; timer = after_other c.timer now word }) in d).entry) is

-- what is reported of it
abbrev pub heard_report : (node key : ℕ) → Entry → DripHeard → Option DripReport
heard_report node key e (what.Refused fault) = None
heard_report node key e what.Same = None
heard_report node key e what.Older = None
heard_report node key e (what.Newer k) = Some (Got node k e)

report_by : (node key : ℕ) (c : Cell) (now word : ℕ) (e : Entry) (s l : Bool) → are_same_entries e c.entry ≡ s → is_less e c.entry ≡ l
    → heard_report node key e (cond s what.Same (cond l what.Older (what.Newer key))) ≡ got_if_other node key c.entry (heard_cell c now word e).entry
report_by node key c now word e true l is less =
    sym (ap (got_if_other node key c.entry) (heard_entry c now word e true is) ∙ ap (λ (b : Bool). let r : Option DripReport = cond b None (Some (Got node key c.entry)) in r) (same_refl c.entry))
report_by node key c now word e false true is less =
    sym (
    ap (got_if_other node key c.entry) (heard_entry c now word e false is ∙ ap (λ (b : Bool). cond b e c.entry) (less_one_way e c.entry less))
    ∙ ap (λ (b : Bool). let r : Option DripReport = cond b None (Some (Got node key c.entry)) in r) (same_refl c.entry)
    )
report_by node key c now word e false false is less =
    sym (
    ap (got_if_other node key c.entry) (heard_entry c now word e false is ∙ ap (λ (b : Bool). cond b e c.entry) (less_or_other e c.entry is less))
    ∙ ap (λ (b : Bool). let r : Option DripReport = cond b None (Some (Got node key e)) in r) is
    )

pub heard_told : (w : Network) (node word : ℕ) (s : Said) (answer : DripHeard) → answer ≡ outcome (w.cells node s.key) s.key s.entry
    → heard_report node s.key s.entry answer ≡ got w (heard w node w.moment word (Some s)) node s.key
heard_told w node word s answer is =
    let c : Cell = w.cells node s.key in
    ap (heard_report node s.key s.entry) is
    ∙ report_by node s.key c w.moment word s.entry (are_same_entries s.entry c.entry) (is_less s.entry c.entry) refl refl
    ∙ ap (λ (d : Cell). got_if_other node s.key c.entry d.entry) (sym (with_here w.cells node s.key (heard_cell c w.moment word s.entry)))

pub heard_stands : (d e : DripNetwork) (w : Network) (node word : ℕ) (s : Said) → NetworkStands d w → node < length d.nodes.items → s.key < key_count
    → e.moment ≡ d.moment → e.links.items ≡ d.links.items → e.sent.items ≡ d.sent.items
    → e.nodes.items ≡ set d.nodes.items node (with_cell (node_at d.nodes.items node) s.key (heard_cell (cell_of (node_at d.nodes.items node) s.key) d.moment word s.entry))
    → NetworkStands e (heard w node w.moment word (Some s))
heard_stands d e w node word s t h l moment links sent nodes =
    let c : Cell = heard_cell (cell_of (node_at d.nodes.items node) s.key) d.moment word s.entry in
    let same : heard_cell (w.cells node s.key) w.moment word s.entry ≡ c =
    ap (λ (m : ℕ). heard_cell (w.cells node s.key) m word s.entry) (sym t.moment) ∙ ap (λ (x : Cell). heard_cell x d.moment word s.entry) (sym (t.cells node s.key h l)) in
    stands_with d e w (heard w node w.moment word (Some s)) node s.key c t h l nodes (ap (with_cell_at w.cells node s.key) same)
    (moment ∙ t.moment) (links ∙ t.links) (sent ∙ t.sent)

-- only the moment went on
pub later_stands : (d e : DripNetwork) (w : Network) (dt : ℕ) → NetworkStands d w → e.moment ≡ d.moment + dt → e.links.items ≡ d.links.items → e.sent.items ≡ d.sent.items → e.nodes.items ≡ d.nodes.items
    → NetworkStands e (record w { moment = w.moment + dt })
later_stands d e w dt s moment links sent nodes = record {
  moment = moment ∙ ap (λ (m : ℕ). m + dt) s.moment;
  links = links ∙ s.links;
  sent = sent ∙ s.sent;
  long = subst (λ (ns : List Node). (m : ℕ) → m < length ns → length (node_at ns m).cells ≡ key_count) (sym nodes) s.long;
  ids = subst (λ (ns : List Node). (m : ℕ) → m < length ns → (node_at ns m).id ≡ m) (sym nodes) s.ids;
  cells = subst (λ (ns : List Node). (m k : ℕ) → m < length ns → k < key_count → cell_of (node_at ns m) k ≡ w.cells m k) (sym nodes) s.cells;
}
