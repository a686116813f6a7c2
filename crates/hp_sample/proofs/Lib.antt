mod Drawing
mod GraphTexts
