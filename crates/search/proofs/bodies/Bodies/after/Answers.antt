use Rattle.search.proofs.Walks.{body_front, standing_step, left_more, left_over}
use Rattle.search.proofs.bodies.Bodies.after.Goals as goal

pub advance-requires : goal.advance-requires
advance-requires g c =
    body_front g.K.Kind.meaning c.args.self.now.sizes.now c.args.body c.args.reach c.args.self.now.lawful.1 c.requires.standing c.requires.within c.requires.zeros

pub returns-then-advance : goal.returns-then-advance
returns-then-advance g c =
    let m = g.K.Kind.meaning in
    let ns = c.args.self.now.sizes.now in
    let d = c.args.reach in
    record {
      standing = standing_step m ns c.args.body d c.args.self.now.lawful.1 c.requires.standing c.requires.within c.requires.zeros c.advance.new.body c.advance.result c.advance.ensures;
      passed = left_more m ns c.args.body d c.args.self.now.lawful.1 c.requires.standing c.requires.within c.requires.zeros c.advance.new.body c.advance.result c.advance.ensures c.if-advance.true;
    }

pub returns-else-advance : goal.returns-else-advance
returns-else-advance g c =
    let m = g.K.Kind.meaning in
    let ns = c.args.self.now.sizes.now in
    let d = c.args.reach in
    record {
      standing = tt;
      passed = left_over m ns c.args.body d c.args.self.now.lawful.1 c.requires.standing c.requires.within c.requires.zeros c.advance.new.body c.advance.result c.advance.ensures c.if-advance.false;
    }
