use Rattle.std.proofs.Common.{◌≡◌, ℕ, ◌+◌, List, [], ◌∷◌, drop, refl, sym, ap, subst, ◌∙◌, arith}
use Rattle.dg_nor.specs.Trail.{last}
use Rattle.dg_object.specs.Object.{object}
use Rattle.dg_volume.proofs.FillLemmas.{object_drop, object_end}
use Rattle.dg_volume.specs.Store.{Store}
use Rattle.dg_volume.specs.Stands.{Mounted}
use Rattle.dg_chain.specs.Checking.{field_of, first_break}
use Rattle.dg_volume.specs.Filling.{new_row}
use Rattle.dg_chain_tool.specs.inner.Filling.{fill_to, FillEnds}
use Rattle.dg_chain_tool.proofs.FillLemmas.{from_err, Going, going_none, going_more, going_all, going_fits, next_fails, break_on}
use Rattle.dg_chain_tool.proofs.filling.receive_data.Goals as goal

pub loop-p-init : goal.loop-p-init
loop-p-init g c =
    let pages = drop c.args.done (object (new_row c.args.new.now)) in
    record {
      found = refl;
      going = λ s mounted. let h = c.requires.data s mounted in
          going_none (first_break c.args.first.now c.args.done pages) c.args.done c.args.new.now.image pages s h.0 _ c.args.volume.now mounted (c.requires.fit s mounted) h.1 h.2;
      lent = λ i. refl;
    }

pub receive_next-requires-clause-mounted : goal.receive_next-requires-clause-mounted
receive_next-requires-clause-mounted g c = let f = c.loop-p.invariant.going c.requires.mounted.0 c.requires.mounted.1 in (last f.gone, f.acted.mounted)

pub receive_next-requires-clause-not_lent : goal.receive_next-requires-clause-not_lent
receive_next-requires-clause-not_lent g c = c.loop-p.invariant.lent c.args.new.now.image ∙ c.requires.not_lent

pub receive_next-requires-clause-fits : goal.receive_next-requires-clause-fits
receive_next-requires-clause-fits g c =
    let row = new_row c.args.new.now in
    let i = c.args.new.now.image in
    let p = c.loop-p.p in
    let page = c.page.new.into in
    let rest = drop (p + 1) (object row) in
    let whole = drop c.args.done (object row) in
    let s = c.requires.mounted.0 in
    let pages : drop p (object row) ≡ page ∷ rest = object_drop row p page (omega (arith, c.loop-p-test.true, c.pages-p-end.ensures)) c.page.ensures in
    let aim = fill_to (first_break c.args.first.now c.args.done whole) c.args.done s i whole in
    let f = subst (λ (l : List (List ℕ)). Going aim (first_break c.loop-p.kept p l) p i l (g.N.Nor.device c.args.nor.now) (g.N.Nor.device c.loop-p.nor) c.loop-p.volume) pages (c.loop-p.invariant.going s c.requires.mounted.1) in
    (last f.gone, f.acted.mounted, going_fits aim (first_break c.loop-p.kept p (page ∷ rest)) p i page rest _ _ _ f)

pub returns-in_err-receive_next : goal.returns-in_err-receive_next
returns-in_err-receive_next g c = record {
  ends = λ s mounted.
      let row = new_row c.args.new.now in
      let i = c.args.new.now.image in
      let p = c.loop-p.p in
      let page = c.page.new.into in
      let rest = drop (p + 1) (object row) in
      let whole = drop c.args.done (object row) in
      let a = g.N.Nor.device c.args.nor.now in
      let b = g.N.Nor.device c.loop-p.nor in
      let d = g.N.Nor.device c.receive_next.new.nor in
      let pages : drop p (object row) ≡ page ∷ rest = object_drop row p page (omega (arith, c.loop-p-test.true, c.pages-p-end.ensures)) c.page.ensures in
      let found = first_break c.args.first.now c.args.done whole in
      let aim = fill_to found c.args.done s i whole in
      let f = subst (λ (l : List (List ℕ)). Going aim (first_break c.loop-p.kept p l) p i l a b c.loop-p.volume) pages (c.loop-p.invariant.going s mounted) in
      let same = c.loop-p.invariant.found ∙ ap (first_break c.loop-p.kept p) pages in
      let stop = c.in_err-receive_next.field-0.0 in
      let fails = next_fails ℕ ℕ stop aim found c.loop-p.kept p i page rest a b d c.loop-p.volume c.receive_next.new.volume same f (c.in_err-receive_next.ensures.ends (last f.gone) f.acted.mounted) in
      subst (λ r. FillEnds r found aim a d c.receive_next.new.volume) (sym (from_err c.from_residual.result stop c.from_residual.ensures.1)) fails;
}

pub loop-p-preserved : goal.loop-p-preserved
loop-p-preserved g c =
    let row = new_row c.args.new.now in
    let i = c.args.new.now.image in
    let p = c.loop-p.p in
    let page = c.page.new.into in
    let rest = drop (p + 1) (object row) in
    let whole = drop c.args.done (object row) in
    let a = g.N.Nor.device c.args.nor.now in
    let b = g.N.Nor.device c.loop-p.nor in
    let pages : drop p (object row) ≡ page ∷ rest = object_drop row p page (omega (arith, c.loop-p-test.true, c.pages-p-end.ensures)) c.page.ensures in
    let found = first_break c.args.first.now c.args.done whole in
    let d = g.N.Nor.device c.receive_next.new.nor in
    let same = c.loop-p.invariant.found ∙ ap (first_break c.loop-p.kept p) pages in
    let next : c.field_of-kept.result ≡ field_of page = c.field_of-kept.ensures in
    let at : (s : Store) (mounted : Mounted a.image c.args.volume.now s) → Going (fill_to found c.args.done s i whole) (first_break c.loop-p.kept p (page ∷ rest)) p i (page ∷ rest) a b c.loop-p.volume = λ s mounted. subst (λ (l : List (List ℕ)). Going (fill_to found c.args.done s i whole) (first_break c.loop-p.kept p l) p i l a b c.loop-p.volume) pages (c.loop-p.invariant.going s mounted) in
    let first = at c.requires.mounted.0 c.requires.mounted.1 in
    let fits = (c.in_ok-receive_next.ensures.ends (last first.gone) first.acted.mounted).0 in
    record {
      found = same ∙ break_on c.loop-p.kept p page rest fits ∙ ap (λ (k : List ℕ). first_break k (p + 1) rest) (sym next);
      going = λ s mounted.
          let f = at s mounted in
          let done = c.in_ok-receive_next.ensures.ends (last f.gone) f.acted.mounted in
          subst (λ (k : List ℕ). Going (fill_to found c.args.done s i whole) (first_break k (p + 1) rest) (p + 1) i rest a d c.receive_next.new.volume) (sym next)
          (going_more (fill_to found c.args.done s i whole) c.loop-p.kept p i page rest a b d c.loop-p.volume c.receive_next.new.volume c.requires.known_image fits f done.1);
      lent = λ j. c.in_ok-receive_next.ensures.lent j ∙ c.loop-p.invariant.lent j;
    }

pub returns : goal.returns
returns g c = record {
  ends = λ s mounted.
      let row = new_row c.args.new.now in
      let i = c.args.new.now.image in
      let p = c.loop-p.p in
      let whole = drop c.args.done (object row) in
      let end : drop p (object row) ≡ [] = object_end row p (omega (arith, c.loop-p-test.false, c.pages-p-end.ensures)) in
      let found = first_break c.args.first.now c.args.done whole in
      let aim = fill_to found c.args.done s i whole in
      let f = subst (λ (l : List (List ℕ)). Going aim (first_break c.loop-p.kept p l) p i l (g.N.Nor.device c.args.nor.now) (g.N.Nor.device c.loop-p.nor) c.loop-p.volume) end (c.loop-p.invariant.going s mounted) in
      (c.loop-p.invariant.found ∙ ap (first_break c.loop-p.kept p) end, going_all aim p i _ _ _ f);
}
