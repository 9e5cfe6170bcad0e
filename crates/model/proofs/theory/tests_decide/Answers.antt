use Rattle.model.proofs.Ties.{matches_decides, dominates_decides, shown_decides, shown_with_decides, against_decides, consistent_decides, optimal_decides}
use Rattle.model.proofs.theory.tests_decide.Goals as goal

pub returns : goal.returns
returns g c = λ ns os target value sense.
    let m = g.K.Kind.meaning in
    record {
      by_matches = matches_decides m ns;
      by_dominates = dominates_decides m ns;
      by_shown = shown_decides os;
      by_shown_with = shown_with_decides os target value;
      by_against = against_decides os target value sense;
      by_consistent = consistent_decides m ns os target value sense;
      by_optimal = optimal_decides m ns os target value sense;
    }
