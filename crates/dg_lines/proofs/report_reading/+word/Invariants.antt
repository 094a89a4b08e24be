use Rattle.dg_lines.proofs.report_reading.+word.Given as goal

abbrev pub decreases-word : goal.decreases-word
decreases-word l = l.at
