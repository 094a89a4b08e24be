use Rattle.dg_cli.proofs.VerbLemmas.{no_link_migrate, nowhere}
use Rattle.dg_cli.proofs.migrate.migrate.Goals as goal

pub returns-clause-does : goal.returns-clause-does
returns-clause-does g c = c.migrate.ensures.does

pub returns-clause-link : goal.returns-clause-link
returns-clause-link g c = no_link_migrate c.a_volume_has_one_form.ensures.known _ _ _ (c.migrate.ensures.does nowhere)
