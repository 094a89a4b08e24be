use Rattle.std.proofs.Common.{◌≢◌, ◌⊎◌, sym, subst, inl, inr}
use Rattle.dg_send.specs.Owed.{Owed}
use Rattle.dg_mote.specs.Hearing.{ChipStays}
use Rattle.dg_mote.specs.Requests.{to_it, page_request}
use Rattle.dg_mote.specs.Model.{Transmit}
use Rattle.dg_mote.specs.declared.mote.Mote.{Mote}
use Rattle.dg_mote.specs.declared.mote.Heard.TheVariants as heard
use Rattle.dg_mote.specs.declared.mote.Mode.TheVariants as value
use Rattle.dg_mote.specs.declared.mote.Mode.{Mode as ModeValue}
use Rattle.dg_mote.proofs.ServeLemmas.{serving_more, serving_other}
use Rattle.dg_mote.proofs.mote.Mote.serve_more.Goals as goal
use Rattle.dg_mote.proofs.mote.Mote.serve_more.Goals.{then-image-name-via-then-image-name, then-image-name-via-else-image-name+then-version-name, then-image-name-via-else-image-name+else-version-name+then-page-name}

pub returns-then-image-name-clause-rests : goal.returns-then-image-name-clause-rests
returns-then-image-name-clause-rests c d m s t now is mode =
    let x = c.in-Transmit in
    let i = c.args.name.image in
    let version = c.args.name.version in
    let page = c.args.name.page in
    let P : Mote → Type 0 = λ v. ChipStays (to_it (Transmit t) m s now (page_request i version page c.args.want)) d s v heard.Dropped in
    let other = λ (o : (x.image ≢ i) ⊎ ((x.version ≢ version) ⊎ (x.page ≢ page))). subst (λ (y : ModeValue). P (record c.args.self.now { mode = y })) x.is
    (serving_other d c.args.self.now m s t x.image x.version x.page i version page now x.serving c.args.want is mode x.is o) in
    elim c.then-image-name.branch [
      | then-image-name-via-then-image-name w ↦ subst P (sym w.self-is) (other (inl w.if-image-name.true))
      | then-image-name-via-else-image-name+then-version-name w ↦ subst P (sym w.self-is) (other (inr (inl w.if-version-name.true)))
      | then-image-name-via-else-image-name+else-version-name+then-page-name w ↦ subst P (sym w.self-is) (other (inr (inr w.if-page-name.true)))
    ]

pub returns-clause-rests : goal.returns-clause-rests
returns-clause-rests c d m s t now is mode =
    let x = c.in-Transmit in
    let i = c.args.name.image in
    let version = c.args.name.version in
    let page = c.args.name.page in
    subst (λ (o : Owed). ChipStays (to_it (Transmit t) m s now (page_request i version page c.args.want)) d s (record c.args.self.now { mode = value.Transmit x.image x.version x.page o }) heard.Merged) (sym c.merge.ensures)
    (serving_more d c.args.self.now m s t x.image x.version x.page i version page now x.serving c.args.want is mode x.is c.if-image-name.false c.if-version-name.false c.if-page-name.false)
