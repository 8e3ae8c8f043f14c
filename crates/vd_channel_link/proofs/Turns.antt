-- What the turns of an accept keep.
use Rattle.std.proofs.Common.{arith, ◌≡◌, ◌∙◌, ◌≤◌, ◌-◌, ◌^◌, ◌+◌, ℕ, true, false, List, [], ◌∷◌, ◌++◌, length, length-append, Result, Ok, Err, IfErr, IfOk, OnOk, ap, ap₂, sym, refl, subst}
use Rattle.vd_base.specs.declared.faults.CallFault.{CallFault}
use Rattle.vd_base.specs.declared.faults.CallFault.TheVariants as call_fault
use Rattle.vd_outside.specs.Link.{LinkView}
use Rattle.vd_outside.specs.Net.{Accepts, HangsUp, NetView}
use Rattle.vd_channel_crypto.specs.Hellos.{nonce_of}
use Rattle.vd_channel_crypto.specs.declared.records.Keys.{Keys}
use Rattle.vd_channel_link.specs.Courses.{AreWaiting, Course, Ends, Gives, IsHungUp, IsWaiting, Stays}
use Rattle.vd_channel_link.specs.Outgoing.{IsLinkSealed, IsSealing, Sealer, SealsLinks, SealsSession, sealer_of}
use Rattle.vd_channel_link.specs.Seals.{IsAnswered, IsKeyFor, IsMet, Tries}
use Rattle.vd_channel_link.specs.Waits.{Awaits, NoneCame, NobodyThere, OneCame, OneTurnedAway, OneWaitsOn, OneProvedNothing, OneMadeRoom, AtOnce, AfterAWait, AllNumbersUsed, AllTurnsTaken, ComesAfter, GivesUp, HangsUpAll, NoRoom, NotGiven, NotMet, Post, Waiter}
use Rattle.vd_channel_link.specs.declared.channel_net.answered.Answered.{Answered}
use Rattle.vd_channel_link.specs.declared.channel_net.seal.Seal.{Seal}
use Rattle.vd_channel_link.specs.declared.fault.SealFault.{SealFault}
use Rattle.vd_channel_link.specs.declared.sealed_link.SealedLink.{SealedLink}
use Rattle.vd_channel_link.specs.declared.session.Session.{Session}
use Rattle.vd_channel_link.proofs.Sealed.{accepts_unused, came_over, given_sealed, greeted_by, same_sealer, seals_accepts, seals_hangs_up, seals_none, seals_then}
use Rattle.vd_channel_link.proofs.Tried.{met_later, tries_more, tries_none}
use Rattle.vd_channel_link.proofs.Waiting.{all_later, as_many, first_of_all, last_of_all, one_more, untold_sealed}

pub stays_then : (post : Post) (start : NetView) (seal later : Seal) (mid now : NetView) → Stays post start seal mid → Tries seal later → now.given ≡ mid.given
    → now.limit ≡ mid.limit → SealsLinks (sealer_of post.seal) mid now → Stays post start later now
stays_then post start seal later mid now stays tries given limit over = record {
  given = given ∙ stays.given;
  limit = limit ∙ stays.limit;
  kept = tries_more post.seal seal later stays.kept tries;
  over = seals_then (sealer_of post.seal) start mid now stays.over over;
}

-- nobody waits at first
pub begins : {L : Type 0} (view : L → LinkView) (post : Post) (seal : Seal) (now : NetView) → seal ≡ post.seal → Course view post now 0 seal now []
begins view post seal now same = record {
  stays = record { given = refl; limit = refl; kept = tries_none post.seal seal same; over = seals_none (sealer_of post.seal) now now refl };
  waiting = [];
  are = tt;
  awaits = NoneCame;
}

-- ---- one that waits is looked at

-- its link is another value of the same view
again_first : {L : Type 0} (view : L → LinkView) (post : Post) (start : NetView) (turns : ℕ) (seal : Seal) (now : NetView) (first again : Answered L) (others : List (Answered L))
    → view again.link ≡ view first.link → again.ours ≡ first.ours → again.theirs ≡ first.theirs
    → Course view post start turns seal now (first ∷ others) → Course view post start turns seal now (again ∷ others)
again_first {L} view post start turns seal now first again others same ours theirs course =
    let f = first_of_all view post seal.tried first others course.waiting course.are in
    let keys = ap₂ (λ (k o : Keys). (k, o)) (sym ours) (sym theirs) in
    let is : IsWaiting view post seal.tried again f.one = record {
      link = same ∙ f.is.link;
      untold = f.is.untold;
      answered = subst (λ (k : Keys × Keys). IsAnswered post.seal seal.tried post.peer k f.one.came f.one.link) keys f.is.answered;
    } in
    record {
      stays = course.stays;
      waiting = course.waiting;
      are = subst (λ (w : List Waiter). AreWaiting view post seal.tried (again ∷ others) w) (sym f.all) (is, f.are);
      awaits = course.awaits;
    }

pub looked_at : {L : Type 0} (view : L → LinkView) (post : Post) (start : NetView) (turns : ℕ) (seal : Seal) (before now : NetView) (all others : List (Answered L)) (first again : Answered L)
    → all ≡ first ∷ others → now ≡ before → view again.link ≡ view first.link → again.ours ≡ first.ours → again.theirs ≡ first.theirs
    → Course view post start turns seal before all → Course view post start turns seal now (again ∷ others)
looked_at {L} view post start turns seal before now all others first again is still same ours theirs course =
    again_first view post start turns seal now first again others same ours theirs
    (subst (λ (n : NetView). Course view post start turns seal n (first ∷ others)) (sym still)
    (subst (λ (l : List (Answered L)). Course view post start turns seal before l) is course))

pub waits_on : {L : Type 0} (view : L → LinkView) (post : Post) (start : NetView) (turns : ℕ) (seal : Seal) (now : NetView) (first : Answered L) (others : List (Answered L))
    → Course view post start turns seal now (first ∷ others) → Course view post start turns seal now (others ++ first ∷ [])
waits_on view post start turns seal now first others course =
    let f = first_of_all view post seal.tried first others course.waiting course.are in
    record {
      stays = course.stays;
      waiting = f.rest ++ f.one ∷ [];
      are = one_more view post seal.tried others f.rest first f.one f.are f.is;
      awaits = OneWaitsOn turns f.rest now f.one (subst (λ (w : List Waiter). Awaits post start turns w now) f.all course.awaits);
    }

-- over a link that does not tell its bytes
untold_session : (seal : Seal) (tried peer : ℕ) (session : Session) (came below : LinkView) → IsMet seal tried peer session came below → below.told ≡ false
    → IsSealing (sealer_of seal) session below
untold_session seal tried peer session came below met untold = record {
  greeted = greeted_by seal tried peer session came below met;
  own = met.met.own_key;
  carried = record {
    pieces = [];
    number = met.fresh.next_out;
    front = λ told. absurd (let never : true ≡ false = sym told ∙ untold in cc);
    whole = λ sends told. absurd (let never : true ≡ false = sym told ∙ untold in cc);
    told = λ sends. met.fresh.sent;
  };
}

pub gives_waiter : {L : Type 0} (view : L → LinkView) (post : Post) (start : NetView) (turns : ℕ) (seal : Seal) (now : NetView) (first : Answered L) (others : List (Answered L))
    (session : Session) (link : LinkView) → Course view post start turns seal now (first ∷ others)
    → ((by : Seal) (tried peer : ℕ) (came : LinkView) → IsAnswered by tried peer (first.ours, first.theirs) came (view first.link) → IsMet by tried peer session came link)
    → link.told ≡ (view first.link).told → Gives view post start seal now others session link
gives_waiter view post start turns seal now first others session link course meets told =
    let f = first_of_all view post seal.tried first others course.waiting course.are in
    let answered = subst (λ (v : LinkView). IsAnswered post.seal seal.tried post.peer (first.ours, first.theirs) f.one.came v) (sym f.is.link) f.is.answered in
    let met = meets post.seal seal.tried post.peer f.one.came answered in
    let untold : link.told ≡ false = told ∙ ap (λ (v : LinkView). v.told) f.is.link ∙ f.is.untold in
    record {
      stays = course.stays;
      waiting = f.rest;
      are = f.are;
      comes = AfterAWait turns f.one (subst (λ (w : List Waiter). Awaits post start turns w now) f.all course.awaits);
      came = f.one.came;
      met = met;
      sealed = λ tells unused. untold_session post.seal seal.tried post.peer session f.one.came link met untold;
    }

pub proved_nothing : {L : Type 0} (view : L → LinkView) (post : Post) (start : NetView) (turns : ℕ) (seal : Seal) (now later : NetView) (first : Answered L) (others : List (Answered L))
    (why : SealFault) → Course view post start turns seal now (first ∷ others)
    → ((by : Seal) (tried peer : ℕ) (came : LinkView) → IsAnswered by tried peer (first.ours, first.theirs) came (view first.link) → IsHungUp by peer came why now later)
    → later.given ≡ now.given → later.limit ≡ now.limit → ((by : Sealer) → IsLinkSealed by (view first.link) → SealsLinks by now later)
    → Course view post start turns seal later others
proved_nothing view post start turns seal now later first others why course hangs given limit over =
    let f = first_of_all view post seal.tried first others course.waiting course.are in
    let answered = subst (λ (v : LinkView). IsAnswered post.seal seal.tried post.peer (first.ours, first.theirs) f.one.came v) (sym f.is.link) f.is.answered in
    let hung = hangs post.seal seal.tried post.peer f.one.came answered in
    let untold : (view first.link).told ≡ false = ap (λ (v : LinkView). v.told) f.is.link ∙ f.is.untold in
    record {
      stays = stays_then post start seal seal now later course.stays (tries_none seal seal refl) given limit (over (sealer_of post.seal) (untold_sealed (sealer_of post.seal) (view first.link) untold));
      waiting = f.rest;
      are = f.are;
      awaits = OneProvedNothing turns f.rest now later f.one hung.left why (subst (λ (w : List Waiter). Awaits post start turns w now) f.all course.awaits) hung.turned_away hung.hangs_up;
    }

pub made_room : {L : Type 0} (view : L → LinkView) (post : Post) (start : NetView) (turns : ℕ) (seal : Seal) (now later : NetView) (others : List (Answered L)) (last : Answered L)
    → Course view post start turns seal now (others ++ last ∷ []) → 64 ≤ length (others ++ last ∷ []) → HangsUp (view last.link) now later
    → Course view post start turns seal later others
made_room view post start turns seal now later others last course many hangs =
    let l = last_of_all view post seal.tried others last course.waiting course.are in
    let untold : (view last.link).told ≡ false = ap (λ (v : LinkView). v.told) l.is.link ∙ l.is.untold in
    let full : 64 ≤ length l.rest + 1 = enough l.rest l.one course.waiting l.all (subst (λ (n : ℕ). 64 ≤ n) (as_many view post seal.tried (others ++ last ∷ []) course.waiting course.are) many) in
    record {
      stays = stays_then post start seal seal now later course.stays (tries_none seal seal refl) hangs.listeners.given hangs.limit
          (seals_hangs_up (sealer_of post.seal) (view last.link) now later hangs (λ tells unused. untold_sealed (sealer_of post.seal) (view last.link) untold));
      waiting = l.rest;
      are = l.are;
      awaits = OneMadeRoom turns l.rest now later l.one (subst (λ (w : List Waiter). Awaits post start turns w now) l.all course.awaits) full
          (subst (λ (v : LinkView). HangsUp v now later) l.is.link hangs);
    }
  where
    enough : (rest : List Waiter) (one : Waiter) (all : List Waiter) → all ≡ rest ++ one ∷ [] → 64 ≤ length all → 64 ≤ length rest + 1
    enough rest one all is many = let long : length all ≡ length rest + 1 = ap length is ∙ length-append rest (one ∷ []) in omega (arith, long, many)

-- ---- one more is let in

pub nobody : {L : Type 0} (view : L → LinkView) (post : Post) (start : NetView) (turns : ℕ) (seal : Seal) (now later : NetView) (answered : List (Answered L))
    → Course view post start turns seal now answered → now.told ≡ false → later ≡ now → Course view post start (turns + 1) seal later answered
nobody view post start turns seal now later answered course untold same = subst (λ (n : NetView). Course view post start (turns + 1) seal n answered) (sym same)
    (record { stays = course.stays; waiting = course.waiting; are = course.are; awaits = NobodyThere turns course.waiting now course.awaits untold })

pub not_given : {L : Type 0} (view : L → LinkView) (post : Post) (start : NetView) (turns : ℕ) (seal : Seal) (now later : NetView) (answered : List (Answered L)) (fault : CallFault)
    → Course view post start turns seal now answered → Accepts post.listener now later (Err fault) → Ends view post start seal later answered fault
not_given view post start turns seal now later answered fault course accepts = record {
  stays = stays_then post start seal seal now later course.stays (tries_none seal seal refl) accepts.listeners.given accepts.limit
      (seals_accepts (sealer_of post.seal) post.listener now later (Err fault) accepts);
  waiting = course.waiting;
  are = course.are;
  fails = NotGiven turns now fault course.awaits accepts;
}

pub no_room : {L : Type 0} (view : L → LinkView) (post : Post) (start : NetView) (turns : ℕ) (seal : Seal) (now : NetView) (answered : List (Answered L))
    → Course view post start turns seal now answered → Ends view post start seal now answered call_fault.Memory
no_room view post start turns seal now answered course =
    record { stays = course.stays; waiting = course.waiting; are = course.are; fails = NoRoom turns course.awaits }

pub numbers_used : {L : Type 0} (view : L → LinkView) (post : Post) (start : NetView) (turns : ℕ) (seal : Seal) (now : NetView) (answered : List (Answered L))
    → seal.tried ≡ 2 ^ 32 - 1 → Course view post start turns seal now answered → Ends view post start seal now answered call_fault.Failed
numbers_used view post start turns seal now answered used course =
    record { stays = course.stays; waiting = course.waiting; are = course.are; fails = AllNumbersUsed turns used course.awaits }

pub turns_taken : {L : Type 0} (view : L → LinkView) (post : Post) (start : NetView) (turns : ℕ) (seal : Seal) (now : NetView) (answered : List (Answered L))
    → turns ≡ 2 ^ 64 - 1 → Course view post start turns seal now answered → Ends view post start seal now answered call_fault.Failed
turns_taken view post start turns seal now answered all course = record {
  stays = course.stays;
  waiting = course.waiting;
  are = course.are;
  fails = AllTurnsTaken (subst (λ (n : ℕ). Awaits post start n course.waiting now) all course.awaits);
}

-- what is known behind a link that came, and was greeted
stays_behind : (post : Post) (start : NetView) (seal later : Seal) (now given after : NetView) (came : LinkView) → Stays post start seal now → Tries seal later
    → Accepts post.listener now given (Ok came) → after.given ≡ given.given → after.limit ≡ given.limit → (came.sent ≡ [] → SealsLinks (sealer_of seal) given after)
    → Stays post start later after
stays_behind post start seal later now given after came stays tries accepts same limit over = record {
  given = same ∙ accepts.listeners.given ∙ stays.given;
  limit = limit ∙ accepts.limit ∙ stays.limit;
  kept = tries_more post.seal seal later stays.kept tries;
  over = came_over post.seal seal came start now given after (same_sealer post.seal seal stays.kept) stays.over
      (seals_accepts (sealer_of post.seal) post.listener now given (Ok came) accepts) (accepts_unused post.listener now given came accepts) over;
}

pub turned_away : {L : Type 0} (view : L → LinkView) (post : Post) (start : NetView) (turns : ℕ) (seal later : Seal) (now given after : NetView) (answered : List (Answered L))
    (came : LinkView) (why : SealFault) → Course view post start turns seal now answered → Tries seal later → Accepts post.listener now given (Ok came)
    → after.given ≡ given.given → after.limit ≡ given.limit → (came.sent ≡ [] → SealsLinks (sealer_of seal) given after) → IsHungUp post.seal post.peer came why given after
    → Course view post start (turns + 1) later after answered
turned_away view post start turns seal later now given after answered came why course tries accepts same limit over hung = record {
  stays = stays_behind post start seal later now given after came course.stays tries accepts same limit over;
  waiting = course.waiting;
  are = all_later view post seal.tried later.tried answered course.waiting tries.later course.are;
  awaits = OneTurnedAway turns course.waiting now given after came hung.left why course.awaits accepts hung.turned_away hung.hangs_up;
}

pub one_came : {L : Type 0} (view : L → LinkView) (post : Post) (start : NetView) (turns : ℕ) (seal later : Seal) (now given : NetView) (answered : List (Answered L))
    (host : Answered L) (came : LinkView) → Course view post start turns seal now answered → Tries seal later → Accepts post.listener now given (Ok came)
    → (view host.link).told ≡ false → IsAnswered post.seal later.tried post.peer (host.ours, host.theirs) came (view host.link)
    → Course view post start (turns + 1) later given (answered ++ host ∷ [])
one_came view post start turns seal later now given answered host came course tries accepts untold is =
    let one : Waiter = record { came = came; link = view host.link } in
    record {
      stays = stays_behind post start seal later now given given came course.stays tries accepts refl refl (λ unsent. seals_none (sealer_of seal) given given refl);
      waiting = course.waiting ++ one ∷ [];
      are = one_more view post later.tried answered course.waiting host one (all_later view post seal.tried later.tried answered course.waiting tries.later course.are)
          (record { link = refl; untold = untold; answered = is });
      awaits = OneCame turns course.waiting now given one course.awaits accepts untold;
    }

pub met_at_once : {L : Type 0} (view : L → LinkView) (post : Post) (start : NetView) (turns : ℕ) (seal later : Seal) (now given : NetView) (answered : List (Answered L))
    (peer : ℕ) (session : Session) (came link : LinkView) → Course view post start turns seal now answered → Tries seal later → Accepts post.listener now given (Ok came)
    → peer ≡ post.peer → IsMet seal later.tried peer session came link → Gives view post start later given answered session link
met_at_once view post start turns seal later now given answered peer session came link course tries accepts same met = record {
  stays = stays_behind post start seal later now given given came course.stays tries accepts refl refl (λ unsent. seals_none (sealer_of seal) given given refl);
  waiting = course.waiting;
  are = all_later view post seal.tried later.tried answered course.waiting tries.later course.are;
  comes = AtOnce turns now came course.awaits accepts;
  came = came;
  met = met_later post.seal seal later.tried peer post.peer session came link course.stays.kept same met;
  sealed = given_sealed post.seal seal later.tried peer session came link start now (same_sealer post.seal seal course.stays.kept) course.stays.over
      (accepts_unused post.listener now given came accepts) met;
}

-- who was answered behind later connections was so behind earlier ones
pub answered_of : (first second : Seal) (tried peer awaited : ℕ) (keys : Keys × Keys) (came now : LinkView) → Tries first second → peer ≡ awaited
    → IsAnswered second tried peer keys came now → IsAnswered first tried awaited keys came now
answered_of first second tried peer awaited keys came now tries same is =
    let kept = tries.same in
    let later = tries.later in
    let new = is.is_new in
    record {
      mine = is.mine;
      id = is.id ∙ ap (λ (s : Seal). s.secrets.id) kept;
      from = is.from ∙ ap (λ (s : Seal). s.me) kept;
      to = is.to ∙ same;
      connection = is.connection;
      is_new = omega (arith, later, new);
      is_counted = is.is_counted;
      nonce = is.nonce ∙ ap (λ (s : Seal). nonce_of s.seed peer is.connection) kept ∙ ap (λ (p : ℕ). nonce_of first.seed p is.connection) same;
      key = is.key;
      is_key = subst (λ (s : Seal). IsKeyFor s.me.0 s.secrets awaited is.key) kept (subst (λ (p : ℕ). IsKeyFor second.me.0 second.secrets p is.key) same is.is_key);
      theirs = is.theirs;
      answered = is.answered;
    }

pub hung_up_of : (first second : Seal) (peer awaited : ℕ) (came : LinkView) (why : SealFault) (before now : NetView) → Tries first second → peer ≡ awaited
    → IsHungUp second peer came why before now → IsHungUp first awaited came why before now
hung_up_of first second peer awaited came why before now tries same is =
    let kept = tries.same in
    let away = is.turned_away in
    record {
      left = is.left;
      turned_away = record {
        mine = away.mine;
        id = away.id ∙ ap (λ (s : Seal). s.secrets.id) kept;
        from = away.from ∙ ap (λ (s : Seal). s.me) kept;
        to = away.to ∙ same;
        key = away.key;
        is_key = subst (λ (s : Seal). IsKeyFor s.me.0 s.secrets awaited away.key) kept (subst (λ (p : ℕ). IsKeyFor second.me.0 second.secrets p away.key) same away.is_key);
        counted = away.counted;
        stranger = away.stranger;
      };
      hangs_up = is.hangs_up;
    }

-- ---- the others are hung up

-- of these hosts the rest is still to be hung up
pub record Left {L : Type 0} (view : L → LinkView) (post : Post) (tried : ℕ) (start now : NetView) (answered : List (Answered L)) (ones : List Waiter) : Type 0 where
  pub rest : List Waiter
  pub are : AreWaiting view post tried answered rest
  pub hung : (end : NetView) → HangsUpAll rest now end → HangsUpAll ones start end
  pub over : SealsLinks (sealer_of post.seal) start now

pub all_left : {L : Type 0} (view : L → LinkView) (post : Post) (tried : ℕ) (start : NetView) (answered : List (Answered L)) (ones : List Waiter)
    → AreWaiting view post tried answered ones → Left view post tried start start answered ones
all_left view post tried start answered ones are = record { rest = ones; are = are; hung = λ end hung. hung; over = seals_none (sealer_of post.seal) start start refl }

pub one_left : {L : Type 0} (view : L → LinkView) (post : Post) (tried : ℕ) (start now later : NetView) (first : Answered L) (others : List (Answered L)) (ones : List Waiter)
    → Left view post tried start now (first ∷ others) ones → HangsUp (view first.link) now later → Left view post tried start later others ones
one_left view post tried start now later first others ones left hangs =
    let f = first_of_all view post tried first others left.rest left.are in
    let untold : (view first.link).told ≡ false = ap (λ (v : LinkView). v.told) f.is.link ∙ f.is.untold in
    let gone : HangsUp f.one.link now later = subst (λ (v : LinkView). HangsUp v now later) f.is.link hangs in
    record {
      rest = f.rest;
      are = f.are;
      hung = λ end hung. left.hung end (subst (λ (w : List Waiter). HangsUpAll w now end) (sym f.all) (later, gone, hung));
      over = seals_then (sealer_of post.seal) start now later left.over
          (seals_hangs_up (sealer_of post.seal) (view first.link) now later hangs (λ tells unused. untold_sealed (sealer_of post.seal) (view first.link) untold));
    }

pub none_left : {L : Type 0} (view : L → LinkView) (post : Post) (tried : ℕ) (start now : NetView) (ones : List Waiter)
    → Left view post tried start now [] ones → HangsUpAll ones start now
none_left view post tried start now ones left = by left.rest left.are left.hung
  where
    by : (rest : List Waiter) → AreWaiting view post tried [] rest → ((end : NetView) → HangsUpAll rest now end → HangsUpAll ones start end) → HangsUpAll ones start now
    by [] are hung = hung now refl
    by (one ∷ rest) are hung = absurd are

-- ---- an accept that is over

-- whichever way it ended, these wait
pub record Over {L : Type 0} (view : L → LinkView) (post : Post) (start : NetView) (seal : Seal) (now : NetView) (answered : List (Answered L)) : Type 0 where
  pub stays : Stays post start seal now
  pub waiting : List Waiter
  pub are : AreWaiting view post seal.tried answered waiting

pub was_over : {L : Type 0} (view : L → LinkView) (post : Post) (start : NetView) (seal : Seal) (now : NetView) (answered : List (Answered L)) (result : Result (SealedLink L) CallFault)
    → IfOk result (λ given. Gives view post start seal now answered given.session (view given.link)) → IfErr result (Ends view post start seal now answered)
    → Over view post start seal now answered
was_over view post start seal now answered (Ok given) gives ends = record { stays = gives.stays; waiting = gives.waiting; are = gives.are }
was_over view post start seal now answered (Err fault) gives ends = record { stays = ends.stays; waiting = ends.waiting; are = ends.are }

pub gives_sealed : {L : Type 0} (view : L → LinkView) (post : Post) (start : NetView) (seal : Seal) (now : NetView) (answered : List (Answered L)) (result : Result (SealedLink L) CallFault)
    → IfOk result (λ given. Gives view post start seal now answered given.session (view given.link))
    → IfOk result (λ given. SealsSession (sealer_of post.seal) start given.session (view given.link))
gives_sealed view post start seal now answered (Ok given) gives = gives.sealed
gives_sealed view post start seal now answered (Err fault) gives = tt

pub comes_after : {L : Type 0} (view : L → LinkView) (post : Post) (start : NetView) (seal : Seal) (now later : NetView) (answered : List (Answered L)) (result : Result (SealedLink L) CallFault)
    → IfOk result (λ given. Gives view post start seal now answered given.session (view given.link))
    → ((at : Post) (tried : ℕ) (ones : List Waiter) → AreWaiting view at tried answered ones → HangsUpAll ones now later) → OnOk result (ComesAfter post start later)
comes_after view post start seal now later answered (Ok given) gives hung =
    record { waiting = gives.waiting; net = now; comes = gives.comes; hung_up = hung post seal.tried gives.waiting gives.are }
comes_after view post start seal now later answered (Err fault) gives hung = tt

pub gave_up : {L : Type 0} (view : L → LinkView) (post : Post) (HasNoKey : Type 0) (start : NetView) (seal : Seal) (now later : NetView) (answered : List (Answered L))
    (result : Result (SealedLink L) CallFault) → IfErr result (Ends view post start seal now answered)
    → ((at : Post) (tried : ℕ) (ones : List Waiter) → AreWaiting view at tried answered ones → HangsUpAll ones now later)
    → IfErr result (GivesUp post HasNoKey seal.tried start later)
gave_up view post HasNoKey start seal now later answered (Ok given) ends hung = tt
gave_up view post HasNoKey start seal now later answered (Err fault) ends hung = NotMet ends.waiting now fault ends.fails (hung post seal.tried ends.waiting ends.are)
