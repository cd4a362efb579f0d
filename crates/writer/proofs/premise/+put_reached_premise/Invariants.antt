use Rattle.writer.proofs.premise.+put_reached_premise.Given as goal

abbrev pub decreases-put_reached_premise : goal.decreases-put_reached_premise
decreases-put_reached_premise l = l.t
