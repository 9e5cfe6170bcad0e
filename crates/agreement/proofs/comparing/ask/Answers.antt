use Rattle.std.proofs.Common.{◌≡◌, Decides, rules}
use Rattle.agreement.proofs.Alike.{decides_forecast, decides_listing}
use Rattle.agreement.proofs.comparing.ask.Goals as goal

pub returns-in-List-clause-alike : goal.returns-in-List-clause-alike
returns-in-List-clause-alike g c =
    let first = c.args.first.now in
    let second = c.args.second.now in
    let one = c.list-one in
    let other = c.list-other in
    decides_listing g.K.Kind.meaning first.shape second.shape (g.L.Log.rows first.log) (g.M.Log.rows second.log) c.in-List.head c.in-List.sense
    c.args.left.now c.args.right.now one.new.rules other.new.rules one.result other.result _ one.ensures.listing other.ensures.listing c.same_listing.ensures

pub returns-in-Forecast-clause-alike : goal.returns-in-Forecast-clause-alike
returns-in-Forecast-clause-alike g c =
    let first = c.args.first.now in
    let second = c.args.second.now in
    let one = c.forecast-one in
    let other = c.forecast-other in
    let same : Decides c.eq.result (one.result ≡ other.result) = search rules in
    decides_forecast g.K.Kind.meaning first.shape second.shape (g.L.Log.rows first.log) (g.M.Log.rows second.log) c.in-Forecast.head c.in-Forecast.state.now
    one.result other.result _ one.ensures.told other.ensures.told same
