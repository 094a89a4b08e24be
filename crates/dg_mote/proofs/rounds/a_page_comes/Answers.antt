use Rattle.dg_mote.proofs.RoundTake.{takes_page}
use Rattle.dg_mote.proofs.rounds.a_page_comes.Goals as goal

pub returns : goal.returns
returns c table x now sender image kept row is_table w = takes_page c.a_page_is_its_packets.ensures table (c.a_table_holds_sound_rows.ensures.fit table is_table) x now sender image kept row w
