use Rattle.std.proofs.Common.{◌≡◌, ℕ, ◌≤◌, List, length, Option, Some, None, sym, ap, ◌∙◌, arith}
use Rattle.std.specs.Prelude.{slice_index_or}
use Rattle.dg_node.specs.declared.node.Node.{Node}
use Rattle.dg_rules.specs.World.{store_at}
use Rattle.dg_world.proofs.DueLemmas.{node_stands, due_on, due_off}
use Rattle.dg_world.proofs.world.World.due.Goals as goal

pub returns-in-Some-Some-clause-rests : goal.returns-in-Some-Some-clause-rests
returns-in-Some-Some-clause-rests c = λ boards d w r now word is low at on early.
    let kept : slice_index_or c.args.self.now.motes.items c.args.mote None ≡ Some c.in-Some-Some.node =
    ap (λ (items : List (Option Node)). slice_index_or items c.args.mote None) (sym c.deref.ensures.value) ∙ (ap (λ (i : ℕ). slice_index_or c.deref.result.now i None) (sym c.from.ensures) ∙ (sym (c.in-Some-Some.ensures.lookup.3.1 None) ∙ c.in-Some-Some.field-0-is)) in
    c.due.ensures.rests d.image r.mote (store_at w c.args.mote) now word (node_stands c.args.self.now boards d w c.args.mote c.in-Some-Some.node r is low at kept on) early

pub returns-in-Some-Some-clause-value : goal.returns-in-Some-Some-clause-value
returns-in-Some-Some-clause-value c = λ boards w is low.
    let kept : slice_index_or c.args.self.now.motes.items c.args.mote None ≡ Some c.in-Some-Some.node =
    ap (λ (items : List (Option Node)). slice_index_or items c.args.mote None) (sym c.deref.ensures.value) ∙ (ap (λ (i : ℕ). slice_index_or c.deref.result.now i None) (sym c.from.ensures) ∙ (sym (c.in-Some-Some.ensures.lookup.3.1 None) ∙ c.in-Some-Some.field-0-is)) in
    due_on c.args.self.now boards w c.args.mote c.due.result c.in-Some-Some.node is low kept c.due.ensures.value

pub returns-in-Some-None-clause-value : goal.returns-in-Some-None-clause-value
returns-in-Some-None-clause-value c = λ boards w is low.
    due_off c.args.self.now boards w c.args.mote is low
    (ap (λ (items : List (Option Node)). slice_index_or items c.args.mote None) (sym c.deref.ensures.value) ∙ (ap (λ (i : ℕ). slice_index_or c.deref.result.now i None) (sym c.from.ensures) ∙ (sym (c.in-Some-None.ensures.lookup.3.1 None) ∙ c.in-Some-None.field-0-is)))

pub returns-in-None-clause-value : goal.returns-in-None-clause-value
returns-in-None-clause-value c = λ boards w is low.
    let count : length c.deref.result.now ≡ length c.args.self.now.motes.items = ap length c.deref.ensures.value in
    let past : length c.deref.result.now ≤ c.from.result = c.in-None.ensures.lookup.3 in
    let at : c.from.result ≡ c.args.mote = c.from.ensures in
    let motes : length w.sites ≡ length c.args.self.now.motes.items = is.motes in
    absurd (omega (arith, count, past, at, motes, low))
