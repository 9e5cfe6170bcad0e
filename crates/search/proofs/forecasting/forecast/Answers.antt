use Rattle.std.proofs.Common.{◌≡◌, ℕ, ◌-◌, List, length, Ok, take, replicate, None, Some, vec_items, Option, unwrap_or, ap, ◌∙◌, subst}
use Rattle.std.proofs.lemmas.List.{take_at}
use Rattle.model.specs.Forecasts.{percentage, Forecasted}
use Rattle.model.specs.Limits.{Listable}
use Rattle.model.specs.Shapes.{features}
use Rattle.model.specs.Values.{Decoded}
use Rattle.model.specs.declared.sense.Sense.{Sense}
use Rattle.model.specs.declared.sense.Sense.TheVariants.{Can, Cannot}
use Rattle.search.specs.Found.{best_matching}
use Rattle.search.specs.Opposing.{states_against}
use Rattle.search.specs.Walks.{places}
use Rattle.search.specs.Weights.{heaviest}
use Rattle.search.specs.declared.survey.Seen.{Seen}
use Rattle.search.proofs.Founds.{foretold}
use Rattle.search.proofs.Listings.{best_places}
use Rattle.search.proofs.forecasting.forecast.Goals as goal

pub returns : goal.returns
returns g c =
    let m = g.K.Kind.meaning in
    let laws = g.met.K.Kind.lawful in
    let s = c.args.shape.now in
    let h = c.args.head in
    let state = c.args.state.now in
    let rows = g.L.Log.rows c.args.log.now in
    let twelve = g.met.L.Log.twelve c.args.log.now in
    let all = c.in_ok-bodies.bodies in
    let known = c.in_ok-known_head.ensures in
    let listable : Listable m (features s) = subst (Listable m) c.in_ok-bodies.ensures all.listable in
    let place = c.in_ok-known.known in
    let seen = vec_items c.take.new.self.seen in
    let read : Decoded (features s) state (Some place) = subst (Decoded (features s) state) c.in_ok-known.ensures.ok_part c.state.ensures in
    let front : take (length (features s)) place ≡ state =
    ap (take (length (features s))) read.1 ∙ take_at state (replicate (8 - length state) 0) (length (features s)) read.0.0 in
    let heavy : Sense → List Seen → Option ℕ = λ sense xs. heaviest m all.sizes.now sense xs place None (places m all.sizes.now (states_against sense xs)) in
    let best : (sense : Sense) → heavy sense seen ≡ best_matching m s rows h sense state =
    λ sense. ap (λ (n : List ℕ). heaviest m n sense seen place None (places m n (states_against sense seen))) c.in_ok-bodies.ensures
    ∙ ap (λ (xs : List Seen). heaviest m (features s) sense xs place None (places m (features s) (states_against sense xs))) c.in_ok-take.ensures.1
    ∙ best_places m s rows h sense place state front in
    let pro : c.weight_for-pro.result ≡ unwrap_or (best_matching m s rows h Can state) 0 = c.weight_for-pro.ensures.value ∙ ap (λ (o : Option ℕ). unwrap_or o 0) (best Can) in
    let contra : c.weight_for-contra.result ≡ unwrap_or (best_matching m s rows h Cannot state) 0 =
    c.weight_for-contra.ensures.value ∙ ap (λ (xs : List Seen). unwrap_or (heavy Cannot xs) 0) c.weight_for-pro.ensures.same ∙ ap (λ (o : Option ℕ). unwrap_or o 0) (best Cannot) in
    let answer : ℕ × ℕ × ℕ = (c.weight_for-pro.result, c.weight_for-contra.result, c.share.result) in
    let told : Forecasted m s rows h state (best_matching m s rows h Can state) (best_matching m s rows h Cannot state) (Ok answer) = (
      known,
      read.0,
      listable,
      c.in_ok-take.ensures.0,
      ap (λ (p : ℕ). (c.weight_for-pro.result, c.weight_for-contra.result, p)) c.share.ensures
          ∙ ap (λ (p : ℕ). (p, c.weight_for-contra.result, percentage p c.weight_for-contra.result)) pro
          ∙ ap (λ (q : ℕ). (unwrap_or (best_matching m s rows h Can state) 0, q, percentage (unwrap_or (best_matching m s rows h Can state) 0) q)) contra,
    ) in
    record {
      answer = told;
      told = foretold m laws s rows h twelve state (Ok answer) told;
    }
