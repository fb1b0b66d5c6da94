use Rattle.std.proofs.Common.{◌≡◌, subst}
use Rattle.gdp_commands.specs.Answers.{Says}
use Rattle.gdp_commands.specs.Command.{form_of}
use Rattle.gdp_commands.specs.Replies.{text_of}
use Rattle.gdp_commands.specs.Statuses.{IsOut, IsRefused}
use Rattle.gdp_commands.proofs.Delivered.{out_worked, refused_worked, refused_not_out, said}
use Rattle.gdp_commands.proofs.commands.run.Goals as goal

pub returns-in-Ok-clause-out : goal.returns-in-Ok-clause-out
returns-in-Ok-clause-out g c form is out =
    let contents = g.S.Shelf.contents c.args.shelf.now in
    let same : c.deliver.result ≡ c.in-Ok.reply.status = c.deliver.ensures.same (λ w. subst IsOut w out) in
    let says = c.in-Ok.ensures.replies.says (out_worked c.in-Ok.reply.status (subst IsOut same out)) in (
      text_of c.in-Ok.reply,
      said (λ f s t. Says f contents s t) form (form_of c.in-Some.command) c.deliver.result c.in-Ok.reply.status (text_of c.in-Ok.reply) (c.in-Some.ensures.only form is) same says,
      (c.deliver.ensures.out out).0,
      (c.deliver.ensures.out out).1,
    )

pub returns-in-Ok-clause-refused : goal.returns-in-Ok-clause-refused
returns-in-Ok-clause-refused g c form is refused =
    let contents = g.S.Shelf.contents c.args.shelf.now in
    let same : c.deliver.result ≡ c.in-Ok.reply.status = c.deliver.ensures.same (λ w. subst IsRefused w refused) in
    let is_refused = subst IsRefused same refused in
    let says = c.in-Ok.ensures.replies.says (refused_worked c.in-Ok.reply.status is_refused) in (
      text_of c.in-Ok.reply,
      said (λ f s t. Says f contents s t) form (form_of c.in-Some.command) c.deliver.result c.in-Ok.reply.status (text_of c.in-Ok.reply) (c.in-Some.ensures.only form is) same says,
      (c.deliver.ensures.err (refused_not_out c.in-Ok.reply.status is_refused)).1,
    )
