use Rattle.std.proofs.Common.{◌∙◌, ap, ap₂, ℕ, List, ◌++◌, map}
use Rattle.whole_answer.specs.{line, text_of_lines, Ending, told_points, best_of, best_tokens, point_tokens}
use Rattle.whole_answer.proofs.PointLines.{last_line}
use Rattle.whole_answer.proofs.sweeping.tell_points.Goals as goal

pub returns : goal.returns
unfolding told_points
returns c =
    let points = c.args.points.now in
    let best = best_tokens (best_of points) in
    ap₂ (λ (text : List ℕ) (ending : Ending). record { text = text; ending = ending })
    (c.in_ok-print_best.ensures ∙ (ap (λ (text : List ℕ). text ++ line best) (c.in_ok-print_points.ensures
    ∙ ap (λ (text : List ℕ). text ++ text_of_lines (map point_tokens points)) c.new-text.ensures)
    ∙ last_line (map point_tokens points) best))
    c.points_ending.ensures
