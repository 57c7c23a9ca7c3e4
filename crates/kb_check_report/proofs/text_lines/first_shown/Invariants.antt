use Rattle.kb_check_report.proofs.text_lines.first_shown.Given as goal

abbrev pub decreases-loop-from : goal.decreases-loop-from
decreases-loop-from l = l.from
