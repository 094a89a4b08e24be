use Rattle.dg_recv.proofs.HistoryLaws.{got-came, asks_for_missing, never_again, few_requests, gives_up_after_all}
use Rattle.dg_recv.proofs.asking_ends.Goals as goal

pub returns-clause-accepted : goal.returns-clause-accepted
returns-clause-accepted c = got-came

pub returns-clause-missing : goal.returns-clause-missing
returns-clause-missing c = asks_for_missing

pub returns-clause-never_again : goal.returns-clause-never_again
returns-clause-never_again c = never_again

pub returns-clause-requests : goal.returns-clause-requests
returns-clause-requests c = few_requests

pub returns-clause-gives_up : goal.returns-clause-gives_up
returns-clause-gives_up c = gives_up_after_all
