use Rattle.std.proofs.Common.{List, ◌∷◌, [], ◌++◌, rules, sym, subst, ◌∙◌}
use Rattle.std.specs.List.{zip}
use Rattle.std.proofs.lemmas.Iterator.{YieldsList-from_zip}
use Rattle.std.proofs.lemmas.Iterator.Adapters.{YieldsList-from_vec}
use Rattle.std.proofs.lemmas.Iterator.Consumers.{YieldsList-at, YieldsList-end, YieldsList-turn}
use Rattle.vd_machine.specs.Kept.{Kept}
use Rattle.vd_world.proofs.Loaded.{AllLoaded, all_load, next_loads, one_more_loaded}
use Rattle.vd_world.proofs.world_report.loading.load_all.Goals as goal

pub load-requires : goal.load-requires
load-requires c =
    let lists = YieldsList-from_zip {s = c.zip-lists.result} (YieldsList-at c.zip-lists.ensures.first (YieldsList-from_vec {s = c.into_iter.result} c.into_vec.result.items (search rules) (search rules)))
    (YieldsList-from_vec {s = c.zip-lists.result.b} c.into_vec-2.result.items c.zip-lists.ensures.second.0 (c.zip-lists.ensures.second.1 ∙ c.into_vec-2.result.ok.0)) in
    let road = YieldsList-from_zip {s = c.zip-code-items.result} (YieldsList-at c.zip-code-items.ensures.first (YieldsList-from_vec {s = c.into_iter-2.result} c.into_vec-3.result.items (search rules) (search rules)))
    (YieldsList-at c.zip-code-items.ensures.second lists) in
    let turn = YieldsList-turn (YieldsList-at c.into_iter-code-iterator.ensures.into_iter_gives road) c.loop-code.yielded c.loop-code.code-iterator c.loop-code.yielded_by c.next.result c.next.new.self
    (c.in-Some.code, (c.in-Some.words, c.in-Some.deal)) c.in-Some.is c.next.ensures.steps in
    let both = next_loads c.args.codes c.args.inputs c.args.deals _ c.loop-code.yielded (c.in-Some.code, (c.in-Some.words, c.in-Some.deal)) c.requires
    (λ i. zip (c.into_vec-3.ensures i) (zip (c.into_vec.ensures i) (c.into_vec-2.ensures i))) turn.0 turn.1 in
    record { code = both.0; deal = both.1 }

pub loop-code-preserved : goal.loop-code-preserved
loop-code-preserved c =
    subst (λ (ms : List Kept). AllLoaded (c.loop-code.yielded ++ (c.in-Some.code, (c.in-Some.words, c.in-Some.deal)) ∷ []) ms) (sym c.in_ok-push.ensures.items)
    (one_more_loaded c.loop-code.yielded c.loop-code.machines.items (c.in-Some.code, (c.in-Some.words, c.in-Some.deal)) _ c.loop-code.invariant (c.in_ok-load.ensures {u = tt}))

pub returns : goal.returns
returns c =
    let lists = YieldsList-from_zip {s = c.zip-lists.result} (YieldsList-at c.zip-lists.ensures.first (YieldsList-from_vec {s = c.into_iter.result} c.into_vec.result.items (search rules) (search rules)))
    (YieldsList-from_vec {s = c.zip-lists.result.b} c.into_vec-2.result.items c.zip-lists.ensures.second.0 (c.zip-lists.ensures.second.1 ∙ c.into_vec-2.result.ok.0)) in
    let road = YieldsList-from_zip {s = c.zip-code-items.result} (YieldsList-at c.zip-code-items.ensures.first (YieldsList-from_vec {s = c.into_iter-2.result} c.into_vec-3.result.items (search rules) (search rules)))
    (YieldsList-at c.zip-code-items.ensures.second lists) in
    let end = YieldsList-end (YieldsList-at c.into_iter-code-iterator.ensures.into_iter_gives road) c.loop-code.yielded c.loop-code.code-iterator c.loop-code.yielded_by c.next.result c.next.new.self c.in-None.is c.next.ensures.steps in
    all_load c.args.codes c.args.inputs c.args.deals _ c.loop-code.yielded c.loop-code.machines.items c.requires (λ i. zip (c.into_vec-3.ensures i) (zip (c.into_vec.ensures i) (c.into_vec-2.ensures i))) end.0 c.loop-code.invariant
