-- One name for all executable definitions: `unfolding compute` opens them, and what they say of a closed game is then computed.
use Rattle.theory.specs.Logic.Bools.{◌&◌, ◌or◌, imp, bit}
use Rattle.theory.specs.Logic.Range.{all_below, any_below, any_from, first_of, first, count, nth, tabulate, pairs_below, pairs_of}
use Rattle.theory.specs.Order.Passes.{next_pass, pass, settled, rounds, pass_count, final_marks, rel_of, pair_start, pair_test, largest}
use Rattle.theory.specs.Games.Game.{other, same, parity, is_total, edge_count}
use Rattle.theory.specs.Order.Order.{all_next, any_next, moves, equal_priority, test, marks_between, below, order_marks, order, order_passes}
use Rattle.theory.specs.Order.Governed.{governed_test, governed_marks, governed, governed_passes}
use Rattle.theory.specs.Plans.Plan.{linked}
use Rattle.theory.specs.Classes.Reduction.{same_class, lowest, is_lowest, class_count, class_number, representative, quotient_edge, no_better, dropped, reduced_edge, class_game, quotient, reduced, class_of}
use Rattle.theory.specs.Carry.BreadthFirst.{is_at, number_of, visit, visits, search}
use Rattle.theory.specs.Carry.Carry.{first_link, usable, answer, answer_to, moves_below, moves_of, found_from, carried, carried_plan, class_no_better, carried_class_plan}
use Rattle.theory.specs.Classes.Minimal.{represents}
use Rattle.theory.specs.Plans.PlanTest.{each_link, good_link, answered, moved, surely_wins}

unfoldable pub compute : Unit {0}
unfolding ◌&◌ ◌or◌ imp bit all_below any_below any_from first_of first count nth tabulate pairs_below pairs_of next_pass pass settled rounds pass_count final_marks rel_of pair_start pair_test largest other same parity is_total edge_count all_next any_next moves equal_priority test marks_between below order_marks order order_passes governed_test governed_marks governed governed_passes linked same_class lowest is_lowest class_count class_number representative quotient_edge no_better dropped reduced_edge class_game quotient reduced class_of is_at number_of visit visits search first_link usable answer answer_to moves_below moves_of found_from carried carried_plan class_no_better carried_class_plan represents each_link good_link answered moved surely_wins
compute = tt
