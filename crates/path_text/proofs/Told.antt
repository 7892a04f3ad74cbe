-- What a walk finds is what the text tells.
use Rattle.std.proofs.Common.{◌≡◌, ◌≤◌, Bool, true, false, cond, List, [], refl, ap, subst, ◌∙◌, inl, inr}
use Rattle.std.specs.Prelude.{sum_by}
use Rattle.path_text.specs.{Plan, clock_of, FitsEngine, verdict, log_of, LoggedAccess, AsksNothing, Link, Polled, AreAccesses, links_in}
use Rattle.path_text.specs.{polled_path, polls_along, link_clocks, clocks_waiting, AreLinksOf, ArePolledIn, path_lines, path_text}
use Rattle.path_text.specs.{told_links, told_polls, text_of_lines}
use Rattle.path_text.proofs.{Links.path_polls, Links.polled_few, Links.polled_links, Plain.no_accesses, Plain.plain_path, Plain.quiet_path}

-- the log that a walk gets
pub told_log : (p : Plan) (polls : Bool) (log : List LoggedAccess) → log ≡ cond polls (log_of p) [] → AreAccesses p log
told_log p false log e = inl e
told_log p true log e = inr e

pub links_told : (p : Plan) (polls : Bool) (log : List LoggedAccess) → log ≡ cond polls (log_of p) []
    → links_in (polled_path p log (clock_of (verdict p))) ≡ told_links polls p
links_told p false log e =
    ap (λ (xs : List LoggedAccess). links_in (polled_path p xs (clock_of (verdict p)))) e
    ∙ (plain_path p [] (no_accesses p) (clock_of (verdict p))).links
links_told p true log e = ap (λ (xs : List LoggedAccess). links_in (polled_path p xs (clock_of (verdict p)))) e

pub polls_told : (p : Plan) (polls : Bool) (log : List LoggedAccess) → log ≡ cond polls (log_of p) []
    → polls_along (polled_path p log (clock_of (verdict p))) ≡ told_polls polls p
polls_told p false log e =
    ap (λ (xs : List LoggedAccess). polls_along (polled_path p xs (clock_of (verdict p)))) e
    ∙ (plain_path p [] (no_accesses p) (clock_of (verdict p))).polls
polls_told p true log e = ap (λ (xs : List LoggedAccess). polls_along (polled_path p xs (clock_of (verdict p)))) e

pub told_links_are : (p : Plan) → FitsEngine p → (polls : Bool) → AreLinksOf p.design (told_links polls p)
told_links_are p h polls =
    subst (AreLinksOf p.design) (links_told p polls (cond polls (log_of p) []) refl)
    (polled_links p h (cond polls (log_of p) []) (told_log p polls (cond polls (log_of p) []) refl) (clock_of (verdict p)))

pub told_polls_are : (p : Plan) → FitsEngine p → (polls : Bool) → ArePolledIn p.design (told_polls polls p)
told_polls_are p h polls =
    subst (ArePolledIn p.design) (polls_told p polls (cond polls (log_of p) []) refl)
    (path_polls p h (cond polls (log_of p) []) (told_log p polls (cond polls (log_of p) []) refl) (clock_of (verdict p)))

pub told_few : (p : Plan) → FitsEngine p → (polls : Bool)
    → (sum_by link_clocks (told_links polls p) ≤ clock_of (verdict p)) × (sum_by clocks_waiting (told_polls polls p) ≤ clock_of (verdict p))
told_few p h polls =
    let log = cond polls (log_of p) [] in
    let few = polled_few p h log (told_log p polls log refl) (clock_of (verdict p)) in (
      subst (λ (ls : List Link). sum_by link_clocks ls ≤ clock_of (verdict p)) (links_told p polls log refl) few.0,
      subst (λ (qs : List Polled). sum_by clocks_waiting qs ≤ clock_of (verdict p)) (polls_told p polls log refl) few.1,
    )

-- where no operation is a query, nothing is polled for
pub quiet_text : (p : Plan) → FitsEngine p → AsksNothing p → (events : Bool) → path_text events true p ≡ path_text events false p
unfolding path_text
quiet_text p h none events =
    let plain = plain_path p (log_of p) (quiet_path p h none) (clock_of (verdict p)) in
    ap (λ (ls : List Link). text_of_lines (path_lines p.design events (verdict p) ls (told_polls true p))) plain.links
    ∙ ap (λ (qs : List Polled). text_of_lines (path_lines p.design events (verdict p) (told_links false p) qs)) plain.polls
