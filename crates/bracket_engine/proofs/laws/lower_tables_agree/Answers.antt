use Rattle.bracket_engine.proofs.laws.lower_tables_agree.Goals as goal

pub returns : goal.returns
returns c = λ q zero base lower other choices other_choices ranks other_ranks one two.
    c.one_lower_table.ensures q zero base one.given two.given lower other choices other_choices ranks
    other_ranks one.guess two.guess
