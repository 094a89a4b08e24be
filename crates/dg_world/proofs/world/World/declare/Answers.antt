use Rattle.std.proofs.Common.{◌∷◌, ◌++◌, [], ap, sym, ◌∙◌, subst}
use Rattle.std.specs.Prelude.{not, Option}
use Rattle.dg_base.specs.declared.events.ImageVersion.{ImageVersion}
use Rattle.dg_object.specs.Object.{Row, row_of}
use Rattle.dg_rules.specs.Steps.{declared_as}
use Rattle.dg_world.specs.Worlds.{IsWorld}
use Rattle.dg_shared.specs.declared.shared.Shared.{Shared}
use Rattle.dg_world.specs.declared.world.World.{World}
use Rattle.dg_shared.proofs.ImageLemmas.{taken_by, unknown_row}
use Rattle.dg_world.proofs.WorldLemmas.{shares}
use Rattle.dg_world.proofs.world.World.declare.Goals as goal

pub returns-then-is_same-clause-allowed : goal.returns-then-is_same-clause-allowed
returns-then-is_same-clause-allowed c = λ boards w is.
    taken_by c.args.self.now.shared.images w.declared (record { image = c.args.image; version = c.args.version }) c.in-Some.kept.now _ is.shared.declared c.in-Some.ensures ∙ ap not (sym (c.is_same.ensures (record { image = c.args.image; version = c.args.version })) ∙ c.if-is_same.true)

pub returns-in-Some-clause-taken : goal.returns-in-Some-clause-taken
returns-in-Some-clause-taken c = λ e boards w is.
    taken_by c.args.self.now.shared.images w.declared (record { image = c.args.image; version = c.args.version }) c.in-Some.kept.now _ is.shared.declared c.in-Some.ensures ∙ ap not (sym (c.is_same.ensures (record { image = c.args.image; version = c.args.version })) ∙ c.if-is_same.false)

pub returns-in-Ok-clause-declared : goal.returns-in-Ok-clause-declared
returns-in-Ok-clause-declared c = λ boards w is.
    let v = c.args.self.now in
    let row = row_of c.args.image c.args.version c.args.name c.args.content in
    let image_version : ImageVersion = record { image = c.args.image; version = c.args.version } in
    let s : Shared = record { images = c.add.new.self; links = v.shared.links; narrow = v.shared.narrow; air = v.shared.air } in
    let u : World = record v { shared = s } in
    subst (λ (o : Option Row). IsWorld u boards (declared_as o w row)) (sym (unknown_row v.shared.images w.declared image_version is.shared.declared c.in_default.ensures))
    (shares v s boards w (w.declared ++ row ∷ []) w.links is (record { declared = c.in-Ok.ensures.added w.declared is.shared.declared; links = is.shared.links; narrow = is.shared.narrow; sent = is.shared.sent }))
