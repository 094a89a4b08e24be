use Rattle.dg_volume.proofs.AgreedLemmas.{agreed_pages, agreed_next, agreed_page}
use Rattle.dg_volume.proofs.laws.an_agreeing_store_keeps_rows.Goals as goal

pub returns-clause-pages : goal.returns-clause-pages
returns-clause-pages c = agreed_pages

pub returns-clause-next : goal.returns-clause-next
returns-clause-next c = agreed_next

pub returns-clause-page : goal.returns-clause-page
returns-clause-page c = agreed_page
