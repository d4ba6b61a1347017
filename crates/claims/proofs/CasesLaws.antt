-- The table of cases holds: one computation establishes it, of the definitions that the promises cite, and what the library promises of a
-- call is what is computed.
use Rattle.std.specs.Prelude.{◌≡◌, refl, List, [], ◌∷◌, map, ℕ}
use Rattle.std.proofs.Common.{sym, ap, subst, ◌∙◌}
use Rattle.theory.specs.Games.Game.{Game}
use Rattle.theory.specs.Plans.Reach.{reaches}
use Rattle.theory.proofs.Examples.Compute.{compute}
use Rattle.words.specs.Word.{digit, number}
use Rattle.table.specs.Table.{game_of, player_of, is_edge}
use Rattle.table.specs.Answers.{Answer, judge, written, after}
use Rattle.table.specs.Reading.{lacks_edge, first_owner, first_end, first_lacking, game_rows_by, read_answer}
use Rattle.table.specs.TableWords.{owner_word, table_words}
use Rattle.marks.specs.Marks.{is_mark, byte_of, bytes, relation, has_unused}
use Rattle.order.specs.OrderCall.{order_rows, passes_answer, OrderCall}
use Rattle.order_acceptor.specs.RelationCall.{direct_pair, fails, first_failing, acceptor_rows, acceptor_answer}
use Rattle.plan_links.specs.PlanTable.{any_link, has_link}
use Rattle.plan_links.specs.Refusals.{bad_size, beyond, first_beyond, strays, first_stray}
use Rattle.plan_returns.specs.Returns.{returns, position_priority, returns_wrong, first_return}
use Rattle.plan.specs.Acceptance.{answers, lacks_link, first_lacking_link, plan_rows, plan_answer}
use Rattle.classes.specs.ClassesCall.{class_rows, class_total, class_words, total_answer, ClassesCall}
use Rattle.reduction.specs.TableCall.{table_rows, TableCall}
use Rattle.claims.specs.Cases.{Call, Outcome, answered, lent_marks, lent_classes, lent_output, Promised, outcome, Case, cases, AllHold}
use Rattle.claims.specs.Cases.Call.{read, write_order, accept_relation, write_classes, write_table, accept_plan}

-- ---- what a call promises is what is computed

pub order_promised : {game marks spare : List ℕ} {a : Answer} → OrderCall game (lent_marks game) (lent_marks game) a marks spare
    → answered a (marks ∷ spare ∷ []) ≡ outcome (write_order game)
order_promised call = rw (call.marks_after, call.spare_after, call.verdict)

pub classes_promised : {game marks spare classes : List ℕ} {a : Answer}
    → ClassesCall game (lent_marks game) (lent_marks game) (lent_classes game) a marks spare classes
    → answered a (marks ∷ spare ∷ classes ∷ []) ≡ outcome (write_classes game)
classes_promised call = rw (call.marks_after, call.spare_after, call.classes_after, call.verdict)

pub table_promised : {K : Game → Game} {game marks spare classes output : List ℕ} {a : Answer}
    → TableCall K game (lent_marks game) (lent_marks game) (lent_classes game) (lent_output game) a marks spare classes output
    → answered a (marks ∷ spare ∷ classes ∷ output ∷ []) ≡ outcome (write_table K game)
table_promised call = rw (call.marks_after, call.spare_after, call.classes_after, call.output_after, call.verdict)

pub promised_outcome : (c : Call) (o : Outcome) → Promised c o → o ≡ outcome c
promised_outcome c o (Promised.reads e) = ap (λ (a : Answer). answered a []) e
promised_outcome c o (Promised.orders call) = order_promised call
promised_outcome c o (Promised.judges_relation e) = ap (λ (a : Answer). answered a []) e
promised_outcome c o (Promised.classifies call) = classes_promised call
promised_outcome c o (Promised.tabulates call) = table_promised call
promised_outcome c o (Promised.judges_plan e) = ap (λ (a : Answer). answered a []) e

pub outcome_promised : (c : Call) → Promised c (outcome c)
outcome_promised (read game) = Promised.reads refl
outcome_promised (write_order game) = Promised.orders (record { verdict = refl; marks_after = refl; spare_after = refl })
outcome_promised (accept_relation game relation) = Promised.judges_relation refl
outcome_promised (write_classes game) = Promised.classifies (record { verdict = refl; marks_after = refl; spare_after = refl; classes_after = refl })
outcome_promised (write_table K game) =
    Promised.tabulates (record { verdict = refl; marks_after = refl; spare_after = refl; classes_after = refl; output_after = refl })
outcome_promised (accept_plan game player plan) = Promised.judges_plan refl

-- ---- the table

pub cases_hold : map (λ (c : Case). outcome c.call) cases ≡ map (λ (c : Case). c.expected) cases
unfolding compute
    game_of player_of is_edge judge written after
    read_answer game_rows_by first_owner first_end first_lacking lacks_edge
    digit number is_mark byte_of bytes relation has_unused order_rows passes_answer direct_pair fails first_failing acceptor_rows acceptor_answer owner_word table_words class_rows table_rows class_total class_words total_answer
    bad_size beyond first_beyond strays first_stray any_link answers lacks_link first_lacking_link reaches returns position_priority has_link returns_wrong first_return plan_rows plan_answer
cases_hold = refl

each_holds : (cs : List Case) → map (λ (c : Case). outcome c.call) cs ≡ map (λ (c : Case). c.expected) cs → AllHold cs
each_holds [] e = tt
each_holds (c ∷ cs) e =
    let h : outcome c.call ≡ c.expected = cc in
    let t : map (λ (c : Case). outcome c.call) cs ≡ map (λ (c : Case). c.expected) cs = cc in
    (λ o. (λ p. promised_outcome c.call o p ∙ h, λ q. subst (Promised c.call) (h ∙ sym q) (outcome_promised c.call)), each_holds cs t)

pub cases_promised : AllHold cases
cases_promised = each_holds cases cases_hold
