use Rattle.filters_text.proofs.csv_row.one_row.Goals as goal

pub returns : goal.returns
returns c =
    let reader = c.reader_of-reader.ensures in
    c.only_row.ensures c.args.separator c.args.quote c.args.text.now reader.stands reader.config reader.state
