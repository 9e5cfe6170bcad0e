use Rattle.std.proofs.Common.{List, length, vec_items, sym, ap, ◌∙◌, subst, rules}
use Rattle.search.specs.Surveys.{Unseen, SeenAt, marked}
use Rattle.search.specs.declared.survey.Seen.{Seen}
use Rattle.search.proofs.Marks.{no_seen, marked_none, marked_with, marked_without}
use Rattle.search.proofs.survey.Survey.mark.Goals as goal

pub returns-then-with_head : goal.returns-then-with_head
returns-then-with_head c =
    let seen = vec_items c.args.self.now.seen in
    let at : SeenAt seen c.args.state c.in-Some.i = subst (λ (xs : List Seen). SeenAt xs c.args.state c.in-Some.i) c.deref.ensures.value c.in-Some.ensures in
    record {
      items = marked_with seen c.args.state c.in-Some.i c.index_mut.result.now c.index_mut.ensures.value at
          ∙ ap (marked seen c.args.state) (sym c.if-with_head.true);
      len = search rules;
    }

pub returns-else-with_head : goal.returns-else-with_head
returns-else-with_head c =
    let seen = vec_items c.args.self.now.seen in
    let at : SeenAt seen c.args.state c.in-Some.i = subst (λ (xs : List Seen). SeenAt xs c.args.state c.in-Some.i) c.deref.ensures.value c.in-Some.ensures in
    record {
      items = marked_without seen c.args.state c.in-Some.i no_seen at ∙ ap (marked seen c.args.state) (sym c.if-with_head.false);
      len = search rules;
    }

pub returns-in-None : goal.returns-in-None
returns-in-None c =
    let seen = vec_items c.args.self.now.seen in
    let none : Unseen seen c.args.state (length seen) = subst (λ (xs : List Seen). Unseen xs c.args.state (length xs)) c.deref.ensures.value c.in-None.ensures in
    record {
      items = c.push_reserved.ensures.items ∙ sym (marked_none seen c.args.state c.args.with_head none);
      len = search rules;
    }
