use Rattle.std.proofs.Common.{◌≡◌, ◌+◌, Option, sym, ap, subst}
use Rattle.dg_words.specs.Counts.{Rose}
use Rattle.dg_base.specs.Outside.{AtEnd}
use Rattle.dg_lines.specs.declared.line_reader.ReadStop.{ReadStop as Stop}
use Rattle.dg_lines.specs.LineReading.{Reading, PassAnswer}
use Rattle.dg_lines.proofs.ReaderLemmas.{view}
use Rattle.dg_lines.proofs.PassingLemmas.{LetsGo, lets_go, pass_err, pass_end, pass_found, pass_on}
use Rattle.dg_lines.proofs.line_reader.LineReader.pass_over.Goals as goal
use Rattle.dg_lines.proofs.line_reader.LineReader.pass_over.Goals.{in-Err, in-Ok-eq0, in-Ok+in-Some, in-Ok+in-None}

pub returns-clause-answer : goal.returns-clause-answer
returns-clause-answer g c =
    let r = c.self.inside in
    let i = c.self.invariant in
    let mid : Reading = view r.buffer.items r.to r.to r.taken r.number r.text_from r.text_to in
    let l : LetsGo c.args.self.now mid = subst (λ (v : Reading). LetsGo v mid) c.self.view_is (lets_go r.buffer.items r.from r.to r.taken r.number r.text_from r.text_to i.0 i.1 i.2 i.3) in
    let old = c.args.self.now in
    let new = c.fill.new.self in
    let A = AtEnd (g.S.Source.left c.fill.new.input) in
    let F = Rose (g.S.Source.faults c.args.input.now) (g.S.Source.faults c.fill.new.input) in
    let named : c.self-2.inside.number + 1 ≡ new.number + 1 = ap (λ (v : Reading). v.number + 1) c.self-2.view_is in
    elim c.match-fill.branch [
      | in-Err w ↦
          let a = w.in-Err.ensures.answer in
          (a.0, a.1, subst (λ (s : Option Stop). PassAnswer s a.0 old new A F) (sym w.result-is) (pass_err w.in-Err.stop a.0 old mid new A F l a.2))
      | in-Ok-eq0 w ↦
          let a = w.in-Ok-eq0.ensures.answer in
          (a.0, a.1, subst (λ (s : Option Stop). PassAnswer s a.0 old new A F) (sym w.result-is) (pass_end w.in-Ok-eq0.field-0 _ a.0 old mid new A F l a.2 w.in-Ok-eq0.field-0-test named))
      | in-Ok+in-Some w ↦
          let a = w.in-Ok.ensures.answer in
          (a.0, a.1, subst (λ (s : Option Stop). PassAnswer s a.0 old new A F) (sym w.result-is) (pass_found w.in-Ok.field-0 _ w.in-Some.field-0 a.0 old mid new A F l a.2 w.in-Some.ensures named))
      | in-Ok+in-None w ↦
          let a = w.in-Ok.ensures.answer in
          (a.0, a.1, subst (λ (s : Option Stop). PassAnswer s a.0 old new A F) (sym w.result-is) (pass_on w.in-Ok.field-0 a.0 old mid new A F l a.2 w.in-Ok.field-0-test.1 w.in-None.ensures))
    ]
