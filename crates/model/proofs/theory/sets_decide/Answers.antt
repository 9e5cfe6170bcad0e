use Rattle.model.proofs.Sets.{listing_same, weight_same, forecast_same}
use Rattle.model.proofs.theory.sets_decide.Goals as goal

pub returns : goal.returns
returns g c = λ os ps same.
    let m = g.K.Kind.meaning in
    record {
      listings = λ ns. listing_same m ns os ps same;
      weights = λ ns. weight_same m ns os ps same;
      forecasts = λ ns. forecast_same m ns os ps same;
    }
