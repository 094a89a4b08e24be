use Rattle.dg_volume.proofs.laws.a_volume_has_one_form.Goals as goal

pub returns-clause-known : goal.returns-clause-known
returns-clause-known c chip s stands = c.a_chip_has_one_form.ensures.known chip stands.snapshot s.room stands.controls

pub returns-clause-one : goal.returns-clause-one
returns-clause-one c = c.a_chip_has_one_form.ensures.one

pub returns-clause-told : goal.returns-clause-told
returns-clause-told c = λ chip v mounted. c.a_chip_has_one_form.ensures.told chip v.control mounted.1.control
