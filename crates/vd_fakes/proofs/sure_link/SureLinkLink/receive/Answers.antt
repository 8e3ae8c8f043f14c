use Rattle.std.proofs.Common.{rules, ◌≡◌, arith, length-append, length-take, sym, ◌∙◌, ◌≤◌, length, drop}
use Rattle.vd_fakes.proofs.Receiving.{came, nothing_left, none_at_end, given_of}
use Rattle.vd_fakes.proofs.sure_link.SureLinkLink.receive.Goals as goal

pub returns-clause-receive : goal.returns-clause-receive
returns-clause-receive c =
    let count = c.min-count.result in
    let given : count ≡ given_of c.self.inside.incoming c.self.inside.cursor (length c.args.into.now) =
    rw (c.min-count.ensures, c.min.ensures, c.as_slice.ensures) in
    let within : count ≤ length c.args.into.now = omega (arith, c.min-count.ensures, c.min.ensures) in
    rw (← c.self.view_is) (record {
      later = search rules;
      failed = search rules;
      within = omega (arith, length-append c.copy_from_slice.new.self (drop count c.args.into.now), c.copy_from_slice.ensures.len, length-take count c.args.into.now);
      ends = search rules;
      still_ended = λ ended. rw (given, none_at_end _ _ _ (c.self.invariant.1 ended));
      goes_on = search rules;
      still_told = search rules;
      sent = search rules;
      coming = λ told. came _ _ _ _ _ within c.copy_from_slice.ensures.len (rw (← c.as_slice.ensures) c.copy_from_slice.ensures.after);
      all_came = λ told none. nothing_left c.self.inside.incoming c.self.inside.cursor (length c.args.into.now) c.requires (sym given ∙ none);
      nothing = search rules;
    })
