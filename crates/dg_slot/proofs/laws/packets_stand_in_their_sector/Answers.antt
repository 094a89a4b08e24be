use Rattle.dg_slot.proofs.JobLemmas.{put_page, all_put}
use Rattle.dg_slot.proofs.laws.packets_stand_in_their_sector.Goals as goal

pub returns-clause-page : goal.returns-clause-page
returns-clause-page c = put_page

pub returns-clause-all : goal.returns-clause-all
returns-clause-all c = all_put

pub returns-clause-job : goal.returns-clause-job
returns-clause-job c x j h ps job = record { count = job.count; told = job.got; stands = job.stands }
