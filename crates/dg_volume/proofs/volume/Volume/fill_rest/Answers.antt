use Rattle.std.proofs.Common.{◌≡◌, ℕ, ◌+◌, List, [], ◌∷◌, false, drop, refl, subst, ◌∙◌, ⊎_elim, arith}
use Rattle.std.proofs.lemmas.Bool.{cases_lt}
use Rattle.dg_nor.specs.Device.{Device}
use Rattle.dg_nor.specs.Trail.{last}
use Rattle.dg_nor.proofs.ChipLemmas.{Touches-same, Touches_then}
use Rattle.dg_nor.proofs.DeviceLemmas.{OnErr_from}
use Rattle.dg_object.specs.Object.{object}
use Rattle.dg_volume.specs.Changes.{FitAll}
use Rattle.dg_volume.specs.Filling.{new_row}
use Rattle.dg_volume.proofs.FillLemmas.{Filled, filled_none, filled_more, filled_stops, filled_all, fit_next, object_drop, object_end}
use Rattle.dg_volume.proofs.volume.Volume.fill_rest.Goals as goal

pub loop-p-init : goal.loop-p-init
loop-p-init g c = record {
  filled = λ s mounted. filled_none s c.args.new.now.image (drop c.args.done (object (new_row c.args.new.now))) _ c.args.self.now mounted;
  untouched = λ same. (refl, refl);
  awake = λ less. absurd (omega (arith, less));
  lent = λ i. refl;
  touches = Touches-same _ _ _ _ refl;
  references = refl;
}

pub fill_page-requires-clause-mounted : goal.fill_page-requires-clause-mounted
fill_page-requires-clause-mounted g c = let f = c.loop-p.invariant.filled c.requires.mounted.0 c.requires.mounted.1 in (last f.gone, f.acted.mounted)

pub fill_page-requires-clause-fits : goal.fill_page-requires-clause-fits
fill_page-requires-clause-fits g c =
    let row = new_row c.args.new.now in
    let p = c.loop-p.p in
    let f = c.loop-p.invariant.filled c.requires.fit.0 c.requires.fit.1 in
    let pages : drop p (object row) ≡ c.page.new.into ∷ drop (p + 1) (object row) = object_drop row p c.page.new.into (omega (arith, c.loop-p-test.true, c.pages-p-end.ensures)) c.page.ensures in
    (last f.gone, f.acted.mounted, fit_next (last f.gone) c.args.new.now.image c.page.new.into (drop (p + 1) (object row)) (subst (λ (l : List (List ℕ)). FitAll c.args.new.now.image l (last f.gone)) pages (f.fit c.requires.fit.2)))

pub returns-in_err-fill_page-clause-stopped : goal.returns-in_err-fill_page-clause-stopped
returns-in_err-fill_page-clause-stopped g c = OnErr_from c.from_residual.result (λ s mounted.
    let row = new_row c.args.new.now in
    let i = c.args.new.now.image in
    let p = c.loop-p.p in
    let whole = drop c.args.done (object row) in
    let rest = drop (p + 1) (object row) in
    let page = c.page.new.into in
    let pages : drop p (object row) ≡ page ∷ rest = object_drop row p page (omega (arith, c.loop-p-test.true, c.pages-p-end.ensures)) c.page.ensures in
    let f : Filled s i whole (page ∷ rest) (g.N.Nor.device c.args.nor.now) (g.N.Nor.device c.loop-p.nor) c.loop-p.self =
    subst (λ (l : List (List ℕ)). Filled s i whole l (g.N.Nor.device c.args.nor.now) (g.N.Nor.device c.loop-p.nor) c.loop-p.self) pages (c.loop-p.invariant.filled s mounted) in
    filled_stops s i page whole rest _ _ _ c.loop-p.self f (c.in_err-fill_page.ensures.stopped (last f.gone) f.acted.mounted))

pub returns-in_err-fill_page-clause-touches : goal.returns-in_err-fill_page-clause-touches
returns-in_err-fill_page-clause-touches g c = Touches_then c.loop-p.invariant.touches c.fill_page.ensures.touches

pub loop-p-preserved : goal.loop-p-preserved
loop-p-preserved g c =
    let row = new_row c.args.new.now in
    let i = c.args.new.now.image in
    let p = c.loop-p.p in
    let whole = drop c.args.done (object row) in
    let rest = drop (p + 1) (object row) in
    let page = c.page.new.into in
    let pages : drop p (object row) ≡ page ∷ rest = object_drop row p page (omega (arith, c.loop-p-test.true, c.pages-p-end.ensures)) c.page.ensures in
    record {
      filled = λ s mounted.
          let f : Filled s i whole (page ∷ rest) (g.N.Nor.device c.args.nor.now) (g.N.Nor.device c.loop-p.nor) c.loop-p.self =
          subst (λ (l : List (List ℕ)). Filled s i whole l (g.N.Nor.device c.args.nor.now) (g.N.Nor.device c.loop-p.nor) c.loop-p.self) pages (c.loop-p.invariant.filled s mounted) in
          filled_more s i page whole rest _ _ _ c.loop-p.self _ f (c.in_ok-fill_page.ensures.acted (last f.gone) f.acted.mounted);
      untouched = λ same. absurd (omega (arith, same, c.loop-p.auto.p));
      awake = λ less. ⊎_elim
          (λ before. c.loop-p.invariant.awake before)
          (λ here. subst (λ (d : Device). d.stopped ≡ false) (c.loop-p.invariant.untouched (omega (arith, here, less, c.loop-p.auto.p))).0 c.in_ok-fill_page.ensures.awake)
          (cases_lt c.args.done p);
      lent = λ j. c.in_ok-fill_page.ensures.lent j ∙ c.loop-p.invariant.lent j;
      touches = Touches_then c.loop-p.invariant.touches c.fill_page.ensures.touches;
      references = c.fill_page.ensures.same_reference ∙ c.loop-p.invariant.references;
    }

pub returns-clause-acted : goal.returns-clause-acted
returns-clause-acted g c s mounted =
    let row = new_row c.args.new.now in
    let whole = drop c.args.done (object row) in
    let end : drop c.loop-p.p (object row) ≡ [] = object_end row c.loop-p.p (omega (arith, c.loop-p-test.false, c.pages-p-end.ensures)) in
    filled_all s c.args.new.now.image whole _ _ _
    (subst (λ (l : List (List ℕ)). Filled s c.args.new.now.image whole l (g.N.Nor.device c.args.nor.now) (g.N.Nor.device c.loop-p.nor) c.loop-p.self) end (c.loop-p.invariant.filled s mounted))

pub returns-clause-none : goal.returns-clause-none
returns-clause-none g c over = c.loop-p.invariant.untouched (omega (arith, over, c.requires.within, c.loop-p.auto.p, c.loop-p.auto.p-end, c.pages-p-end.ensures))
