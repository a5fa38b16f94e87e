mod TellLaws
mod ExtractLaws
